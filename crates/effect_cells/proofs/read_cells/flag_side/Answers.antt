use Rattle.std.proofs.Common.{false, sym, ap}
use Rattle.effect_cells.specs.ReadCells.{reads_side}
use Rattle.effect_cells.proofs.Flags.{no_flags}
use Rattle.effect_cells.proofs.ReadFlags.{flags_by}
use Rattle.effect_cells.proofs.read_cells.flag_side.Goals as goal

pub returns-in-Literal : goal.returns-in-Literal
returns-in-Literal c = flags_by (λ cell. false) (reads_side c.args.side.now) c.args.flags.now c.args.flags.now (ap reads_side c.in-Literal.is) (sym (no_flags 0 c.args.flags.now))
