use Rattle.std.proofs.Common.{rules, ◌<◌, length}
use Rattle.std.specs.BinaryHeap.{heap_items}
use Rattle.live_tasks.proofs.DelayHeaps.{first_out, some_there, left_over}
use Rattle.live_tasks.proofs.delays.end_first.Goals as goal

pub returns-clause-less : goal.returns-clause-less
returns-clause-less c = λ time number first.
    let some : 0 < length (heap_items c.args.delays.now) = some_there _ _ first in
    first_out _ _ c.requires.once time number first c.pop.result (λ e. search rules) c.pop.ensures.top c.pop.ensures.permutation

pub returns-clause-heap : goal.returns-clause-heap
returns-clause-heap c = record { ordered = search rules; once = left_over _ _ _ c.pop.result c.pop.ensures.permutation c.pop.ensures.unchanged c.requires.once }
