use Rattle.std.specs.BinaryHeap.{heap_items}
use Rattle.live_tasks.proofs.GatheredDelays.{AreEndsBelow}
use Rattle.live_tasks.proofs.listed_slots.delays_of.Given as goal

abbrev pub invariant-loop-number : goal.invariant-loop-number
invariant-loop-number l = AreEndsBelow l.slots.slots l.number (heap_items l.delays)
