use Rattle.live_tasks.proofs.WakeSets.{first_is_least}
use Rattle.live_tasks.proofs.wakes.least_wake.Goals as goal

pub returns-in-Some : goal.returns-in-Some
returns-in-Some c = first_is_least c.args.wakes.now c.in-Some.field-0.now.0 c.in-Some.field-0.now.1 c.in-Some.ensures.member c.in-Some.ensures.least
