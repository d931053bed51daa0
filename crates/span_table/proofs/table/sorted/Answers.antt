use Rattle.std.proofs.Common.{rules}
use Rattle.std.proofs.lemmas.List.Sorted.{answers_always}
use Rattle.span_table.proofs.SpanOrder.{is_before, span_order, sort_gives}
use Rattle.span_table.proofs.table.sorted.Goals as goal

pub returns : goal.returns
returns c =
    sort_gives c.args.spans.items c.sort_by.new.self.items
    (c.in_ok-sort_by.ensures.sorted is_before span_order (answers_always _ _ _ (λ f a r q k. search rules)))
    (c.in_ok-sort_by.ensures.stable is_before span_order (answers_always _ _ _ (λ f a r q k. search rules)))
