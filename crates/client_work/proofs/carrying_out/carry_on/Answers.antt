use Rattle.std.proofs.Common.{◌∙◌, true≢false, ap, sym}
use Rattle.client_work.specs.Counts.{simulates}
use Rattle.client_work.proofs.Refusals.{one_part}
use Rattle.client_work.proofs.carrying_out.carry_on.Goals as goal

pub returns-in_default-clause-done : goal.returns-in_default-clause-done
returns-in_default-clause-done g c =
    one_part c.args.assignment.now.workplace.now.mission.now c.args.assignment.now.whose c.args.command.now c.args.first c.args.worker.now.pass.now c.args.worker.now.steps.now c.in_default.not-Simulate c.in_default.not-Schedule
    c.in_default.not-Expand c.in_default.not-Merge

-- ---- a command that simulates is none that does not

pub returns-in-Simulate-clause-still : goal.returns-in-Simulate-clause-still
returns-in-Simulate-clause-still g c = λ no. absurd (true≢false (sym (ap simulates c.in-Simulate.is) ∙ no))

pub returns-in-Schedule-clause-still : goal.returns-in-Schedule-clause-still
returns-in-Schedule-clause-still g c = λ no. absurd (true≢false (sym (ap simulates c.in-Schedule.is) ∙ no))

pub returns-in-Expand-clause-still : goal.returns-in-Expand-clause-still
returns-in-Expand-clause-still g c = λ no. absurd (true≢false (sym (ap simulates c.in-Expand.is) ∙ no))
