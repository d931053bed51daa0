use Rattle.std.proofs.Common.{map, ◌∙◌}
use Rattle.span_table.specs.AsDefined.{defined_span}
use Rattle.span_reuse.specs.Roots.{is_outside_roots}
use Rattle.span_reuse.proofs.Placing.{copied_next}
use Rattle.span_reuse.proofs.merging.copies_outside.Goals as goal

pub loop-span-preserved : goal.loop-span-preserved
loop-span-preserved c =
    copied_next (is_outside_roots c.args.roots.now) c.args.spans.now c.loop-span.span-index c.span-item.result (map defined_span c.put_outside.new.copies.items)
    (map defined_span c.loop-span.copies.items) c.loop-span-test.true c.span-item.is c.in_ok-put_outside.ensures
    ∙ c.loop-span.invariant
