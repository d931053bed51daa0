use Rattle.live_tasks.proofs.WakeSets.{taken_out}
use Rattle.live_tasks.proofs.KeptTimes.{taken_out_if}
use Rattle.live_tasks.proofs.wakes.leave_out.Goals as goal

pub returns-clause-less : goal.returns-clause-less
returns-clause-less c = taken_out_if _ _ _ _ _ c.in-Some.is (taken_out _ _ _ _ c.remove.ensures.updates)
