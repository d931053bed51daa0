use Rattle.std.proofs.Common.{◌∙◌, sym}
use Rattle.wait_solver.proofs.WakeLaws.{holds_now}
use Rattle.wait_solver.proofs.waiting.holds_now.Goals as goal

pub returns : goal.returns
returns c = sym c.outlook.ensures.tells.now ∙ holds_now c.args.cells.now c.args.condition.now
