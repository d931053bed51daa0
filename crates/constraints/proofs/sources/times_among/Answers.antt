use Rattle.std.proofs.Common.{List, Option, ap, map, sym, subst, length}
use Rattle.span_table.specs.AsDefined.{defined_span}
use Rattle.windows.specs.Times.{TimeSet}
use Rattle.constraints.specs.Sources.{AreTimesIn}
use Rattle.constraints.proofs.Pushing.{times_none, times_more, count_more}
use Rattle.constraints.proofs.sources.times_among.Goals as goal

pub loop-kind-init : goal.loop-kind-init
loop-kind-init c =
    let spans = map defined_span c.args.spans.now in
    (ap (λ (l : List (Option TimeSet)). length l) c.new-made.ensures, subst (AreTimesIn c.args.reach spans) (sym c.new-made.ensures) (times_none c.args.reach spans))

pub loop-kind-preserved : goal.loop-kind-preserved
loop-kind-preserved c = (
  count_more _ _ _ _ c.loop-kind.invariant.0 c.in_ok-push.ensures.pushed,
  times_more c.args.reach (map defined_span c.args.spans.now) _ _ c.in_ok-one.one c.loop-kind.kind c.loop-kind.invariant.1 c.loop-kind.invariant.0 c.in_ok-one.ensures c.in_ok-push.ensures.pushed,
)
