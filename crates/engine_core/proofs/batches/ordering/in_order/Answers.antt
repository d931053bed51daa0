-- Frames in order stay, and a stable sort by path gives the others.
use Rattle.std.proofs.Common.{◌≡◌, sym, rules}
use Rattle.std.proofs.lemmas.List.Sorted.{answers_always}
use Rattle.std.specs.Ordering.{is_lt}
use Rattle.live_tasks.specs.FrameOrders.{is_before}
use Rattle.engine_core.specs.FrameOrderLaws.{order, by_path_stays, stable_is}
use Rattle.engine_core.proofs.batches.ordering.in_order.Goals as goal

pub returns-then-are_by_path : goal.returns-then-are_by_path
returns-then-are_by_path c = sym (by_path_stays c.args.frames.items (rw c.as_slice.ensures.value at (c.are_by_path.ensures c.if-are_by_path.true)))

pub returns : goal.returns
returns c =
    let compares = answers_always _ (λ a r. is_lt r ≡ is_before a.0.now a.1.0.now) _ (λ f a r q k. search rules) in
    stable_is c.args.frames.items c.sort_by.new.self.items (c.in_ok-sort_by.ensures.sorted is_before order compares) (c.in_ok-sort_by.ensures.stable is_before order compares)
