use Rattle.live_tasks.proofs.Taking.{step_took}
use Rattle.live_tasks.proofs.tasks.LiveTasks.step.Goals as goal

pub returns-clause-takes : goal.returns-clause-takes
returns-clause-takes c first numbers table is slot here its =
    step_took c.args.now c.args.frame.now first numbers table c.args.self.now.tables.slots.slots c.step.new.self.slots.slots c.args.number slot here its is (c.in_ok-step.ensures.is slot here)
