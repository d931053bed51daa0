use Rattle.std.proofs.Common.{◌∙◌, subst}
use Rattle.std.specs.BinaryHeap.{heap_items}
use Rattle.std.specs.List.Sorted.{IsPermutation}
use Rattle.live_tasks.proofs.DelayHeaps.{has_same, same_once}
use Rattle.live_tasks.proofs.delays.copy_delays.Goals as goal

pub returns-clause-same : goal.returns-clause-same
returns-clause-same c =
    has_same (heap_items c.args.delays.now) (heap_items c.from.result)
    (subst (λ l. IsPermutation l (heap_items c.from.result)) (c.in_ok-ends.ensures.items ∙ c.as_slice.ensures.value) c.from.ensures.1)

pub returns-clause-heap : goal.returns-clause-heap
returns-clause-heap c = λ heap. record {
  ordered = c.from.ensures.2;
  once =
      same_once (heap_items c.args.delays.now) (heap_items c.from.result)
      (subst (λ l. IsPermutation l (heap_items c.from.result)) (c.in_ok-ends.ensures.items ∙ c.as_slice.ensures.value) c.from.ensures.1) heap.once;
}
