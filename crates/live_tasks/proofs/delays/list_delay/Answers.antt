use Rattle.live_tasks.proofs.DelayHeaps.{put_in, put_once}
use Rattle.live_tasks.proofs.delays.list_delay.Goals as goal

pub returns-clause-more : goal.returns-clause-more
returns-clause-more c = put_in _ _ _ _ _ c.in-Some.is c.in_ok-push.ensures.permutation

pub returns-clause-heap : goal.returns-clause-heap
returns-clause-heap c = λ new heap. record { ordered = c.in_ok-push.ensures.heap_order heap.ordered; once = put_once _ _ _ _ _ c.in-Some.is c.in_ok-push.ensures.permutation new heap.once }
