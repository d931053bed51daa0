use Rattle.std.proofs.Common.{List, map, ◌∙◌, ap, sym}
use Rattle.span_table.specs.declared.span.Span.{Span}
use Rattle.span_table.specs.AsDefined.{defined_span}
use Rattle.span_reuse.specs.Putting.{put_each}
use Rattle.span_reuse.proofs.Placing.{last_first}
use Rattle.span_reuse.proofs.merging.with_each.Goals as goal

pub loop-span-preserved : goal.loop-span-preserved
loop-span-preserved c =
    ap (put_each (map defined_span c.pop.new.self.items)) c.in_ok-put.ensures
    ∙ (sym (last_first c.in-Some.span c.pop.new.self.items c.loop-span.spans.items)
    ∙ (ap (λ (spans : List Span). put_each (map defined_span spans) (map defined_span c.loop-span.spans.items)) (sym c.in-Some.ensures.items)
    ∙ c.loop-span.invariant))
