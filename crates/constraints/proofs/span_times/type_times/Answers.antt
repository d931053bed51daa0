use Rattle.std.proofs.Common.{List, ◌||◌, ◌∙◌, ap, map}
use Rattle.span_table.specs.AsDefined.{defined_span}
use Rattle.windows.specs.Times.{Interval, contains}
use Rattle.constraints.specs.Holding.{some_covers}
use Rattle.constraints.proofs.SpanTimes.{gathered_more, gathered_all, same_times_to}
use Rattle.constraints.proofs.span_times.type_times.Goals as goal

pub loop-span-init : goal.loop-span-init
loop-span-init c t = ap (λ (l : List Interval). contains l t || some_covers c.args.reach c.args.kind (map defined_span c.args.spans.now) t) c.new-covered.ensures.items

pub loop-span-preserved : goal.loop-span-preserved
loop-span-preserved c =
    gathered_more c.args.reach c.args.kind c.loop-span.span-index _ _ c.args.spans.now c.span-item.result _ _ c.loop-span-test.true c.span-item.is c.is_of_type-test.ensures c.times_of-times.ensures
    c.in_ok-put_if.ensures c.loop-span.invariant

pub returns-clause-times : goal.returns-clause-times
returns-clause-times c =
    same_times_to c.args.reach _ _ _ _ c.in_ok-made.ensures.reach
    (λ t below. ap (λ (l : List Interval). contains l t) c.as_slice-found.ensures.value ∙ gathered_all c.args.reach c.args.kind c.loop-span.span-index _ c.args.spans.now c.loop-span-test.false c.loop-span.invariant t)
    c.in_ok-made.ensures.times
