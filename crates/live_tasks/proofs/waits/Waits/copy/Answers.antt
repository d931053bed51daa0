use Rattle.live_tasks.proofs.CopiedTasks.{copied_waits}
use Rattle.live_tasks.proofs.waits.Waits.copy.Goals as goal

pub returns : goal.returns
returns c = copied_waits c.args.self.now _ c.in_ok-times.ensures.by_number c.in_ok-times.ensures.wakes c.in_ok-times.ensures.stale c.in_ok-watchers.ensures
