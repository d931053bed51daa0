use Rattle.std.proofs.Common.{◌≡◌, length}
use Rattle.std.specs.BinaryHeap.{heap_items}
use Rattle.slab.specs.Slab.{slab_len}
use Rattle.live_tasks.specs.LeastTimes.{IsNoneBefore}
use Rattle.live_tasks.specs.Listing.{has_delay}
use Rattle.live_tasks.specs.ListedSlots.{ListsExactly, KeepsWaits}
use Rattle.live_tasks.proofs.ListedDelays.{RestsAlike}
use Rattle.live_tasks.proofs.listed_slots.ListedSlots.rest.Given as goal

abbrev pub invariant-loop-number : goal.invariant-loop-number
invariant-loop-number l =
    RestsAlike l.now l.initial.self.slots.slots l.self.slots.slots
    × (slab_len l.self.slots ≡ slab_len l.initial.self.slots)
    × IsNoneBefore l.now (has_delay (heap_items l.self.delays))
    × ListsExactly l.self
    × KeepsWaits l.initial.self l.self

abbrev pub decreases-loop-number : goal.decreases-loop-number
decreases-loop-number l = length (heap_items l.self.delays)
