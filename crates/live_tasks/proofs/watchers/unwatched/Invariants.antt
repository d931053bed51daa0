use Rattle.std.proofs.Common.{◌≤◌, ◌-◌, length}
use Rattle.live_tasks.proofs.watchers.unwatched.Given as goal

abbrev pub invariant-loop-alloc : goal.invariant-loop-alloc
invariant-loop-alloc l = length l.watchers-inside.items.items ≤ l.cells

abbrev pub decreases-loop-alloc : goal.decreases-loop-alloc
decreases-loop-alloc l = l.cells - length l.watchers-inside.items.items
