use Rattle.std.specs.BTreeSet.{btree_set_len}
use Rattle.live_tasks.specs.ListedSlots.{ListsExactly, AreWaitsFound}
use Rattle.live_tasks.proofs.Woken.{WakesAlike}
use Rattle.live_tasks.proofs.listed_slots.ListedSlots.wake_all.Given as goal

abbrev pub invariant-loop-number : goal.invariant-loop-number
invariant-loop-number l =
    WakesAlike l.cells l.initial.self.slots.slots l.self.slots.slots
    × AreWaitsFound l.now l.fn.horizon l.cells l.self
    × ListsExactly l.self

abbrev pub decreases-loop-number : goal.decreases-loop-number
decreases-loop-number l = btree_set_len l.self.waits.times.wakes
