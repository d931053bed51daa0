use Rattle.std.proofs.Common.{◌∙◌, ap, List, Option}
use Rattle.live_tasks.specs.declared.wake_times.Wait.{Wait}
use Rattle.live_tasks.specs.WakeTimes.{numbered_wait}
use Rattle.live_tasks.proofs.KeptTimes.{pushed_none}
use Rattle.live_tasks.proofs.wake_times.make_room.Goals as goal

pub loop-waits-preserved : goal.loop-waits-preserved
loop-waits-preserved c = λ other.
    ap (λ (waits : List (Option Wait)). numbered_wait waits other) c.in_ok-push.ensures.items ∙ pushed_none c.loop-waits.waits.items other ∙ c.loop-waits.invariant other
