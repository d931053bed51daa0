use Rattle.std.proofs.Common.{arith}
use Rattle.engine_core.proofs.TouchedStates.{put_none}
use Rattle.engine_core.proofs.history.put_state.Goals as goal

pub returns-else-from-count : goal.returns-else-from-count
returns-else-from-count c = put_none c.args.cells.now c.args.states.now c.args.number (omega (arith, c.if-from-count.false, c.requires, c.from.ensures))
