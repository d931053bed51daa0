use Rattle.std.proofs.Common.{◌≡◌, ℕ, ◌+◌, ◌-◌, length}
use Rattle.live_tasks.specs.WakeTimes.{numbered_wait}
use Rattle.live_tasks.proofs.wake_times.make_room.Given as goal

abbrev pub invariant-loop-waits : goal.invariant-loop-waits
invariant-loop-waits l = (other : ℕ) → numbered_wait l.waits.items other ≡ numbered_wait l.initial.waits.items other

abbrev pub decreases-loop-waits : goal.decreases-loop-waits
decreases-loop-waits l = l.number + 1 - length l.waits.items
