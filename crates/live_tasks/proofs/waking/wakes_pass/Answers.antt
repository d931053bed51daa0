use Rattle.live_tasks.proofs.WakingTasks.{wakes_pass_by}
use Rattle.live_tasks.proofs.waking.wakes_pass.Goals as goal

pub returns : goal.returns
returns c = wakes_pass_by c.kept_wake_times_stay.ensures.passing
