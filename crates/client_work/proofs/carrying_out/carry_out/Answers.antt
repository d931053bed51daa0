use Rattle.std.proofs.Common.{[], Some, ap, sym}
use Rattle.client_work.proofs.Carrying.{goes_on}
use Rattle.client_work.proofs.carrying_out.carry_out.Goals as goal

pub returns-clause-done : goal.returns-clause-done
returns-clause-done g c =
    goes_on c.args.assignment.now.workplace.now.mission.now c.args.assignment.now.whose c.args.command.now c.args.worker.now.steps.now c.carry_on.new.worker.steps.now c.in_ok-answer.answer [] c.args.worker.now.pass.now c.act.new.pass c.carry_on.new.worker.pass.now
    c.in_ok-action.action c.in_ok-first.first (ap Some (sym c.in_ok-action.ensures)) c.in_ok-first.ensures c.in_ok-answer.ensures.done
