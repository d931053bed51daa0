use Rattle.std.proofs.Common.{rules}
use Rattle.std.proofs.lemmas.List.Sorted.{answers_always}
use Rattle.seq_expand.proofs.TimeOrders.{is_earlier, time_order, sort_gives}
use Rattle.seq_expand.proofs.order.by_time.Goals as goal

pub returns : goal.returns
returns c =
    sort_gives c.args.sent.items c.sort_by.new.self.items
    (c.in_ok-sort_by.ensures.sorted is_earlier time_order (answers_always _ _ _ (λ f a r q k. search rules)))
    (c.in_ok-sort_by.ensures.stable is_earlier time_order (answers_always _ _ _ (λ f a r q k. search rules)))
