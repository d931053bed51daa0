use Rattle.std.proofs.Common.{sym, ◌∙◌}
use Rattle.client_work.proofs.Refusals.{no_report}
use Rattle.client_work.proofs.simulating.reported.Goals as goal

pub returns-in-Err-clause-done : goal.returns-in-Err-clause-done
returns-in-Err-clause-done g c =
    no_report c.args.assignment.now.workplace.now.mission.now c.args.assignment.now.whose c.args.branch.now c.args.first c.in-Err.refusal c.args.worker.now.pass.now c.args.worker.now.steps.now (sym c.fetched.ensures ∙ c.in-Err.is)
