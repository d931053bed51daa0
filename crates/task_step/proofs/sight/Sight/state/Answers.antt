use Rattle.std.proofs.Common.{◌∙◌, sym, arith}
use Rattle.task_step.proofs.Overlays.{overlaid_length, seen_written, seen_in_view}
use Rattle.task_step.proofs.sight.Sight.state.Goals as goal

pub returns-in-Some : goal.returns-in-Some
returns-in-Some c = seen_written _ _ _ _ c.requires (sym c.in-Some.ensures)

pub returns-in-None : goal.returns-in-None
returns-in-None c = seen_in_view c.args.self.now.view.now c.args.self.now.written c.args.cell (sym c.in-None.ensures) ∙ c.state-in-None.ensures

pub state-requires-in-None : goal.state-requires-in-None
state-requires-in-None c = omega (arith, c.requires, overlaid_length 0 c.args.self.now.view.now c.args.self.now.written)
