use Rattle.std.proofs.Common.{length}
use Rattle.live_tasks.specs.Conditions.{condition_at}
use Rattle.live_tasks.specs.Waits.{IsKept}
use Rattle.live_tasks.proofs.waking.solve_all.Given as goal

abbrev pub invariant-loop-number : goal.invariant-loop-number
invariant-loop-number l = IsKept l.now l.horizon l.cells (condition_at l.slots.slots) l.waits

abbrev pub decreases-loop-number : goal.decreases-loop-number
decreases-loop-number l = length l.waits.times.stale.items
