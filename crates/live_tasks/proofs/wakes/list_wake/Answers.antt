use Rattle.live_tasks.proofs.WakeSets.{put_in}
use Rattle.live_tasks.proofs.wakes.list_wake.Goals as goal

pub returns-clause-more : goal.returns-clause-more
returns-clause-more c = put_in _ _ _ _ _ c.in-Some.is c.in_ok-insert.ensures.updates
