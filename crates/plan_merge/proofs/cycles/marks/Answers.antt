use Rattle.std.proofs.Common.{◌+◌, ◌||◌, None, ap, ◌∙◌, take, length, slice_index_or}
use Rattle.std.specs.List.{list_any}
use Rattle.aerie_base.specs.declared.plans.Directive.{Directive}
use Rattle.std.proofs.lemmas.List.{length-map}
use Rattle.plan_merge.specs.Merging.{is_at}
use Rattle.plan_merge.proofs.Steps.{any_more, own_item}
use Rattle.plan_merge.proofs.Doubled.{map_same}
use Rattle.plan_merge.proofs.cycles.marks.Goals as goal

pub loop-at-init : goal.loop-at-init
loop-at-init c = record {
  marked = c.in_ok-marks.ensures;
  count = ap length c.in_ok-marks.ensures ∙ length-map c.args.directives.now _;
}

pub loop-at-preserved : goal.loop-at-preserved
loop-at-preserved c = record {
  marked = c.mark.ensures.marked (λ d. list_any (is_at d.id) (take c.loop-at.at c.args.reached.now)) c.loop-at.invariant.marked
      ∙ map_same (λ (d : Directive). list_any (is_at d.id) (take c.loop-at.at c.args.reached.now) || is_at d.id (slice_index_or c.args.reached.now c.loop-at.at None))
      (λ (d : Directive). list_any (is_at d.id) (take (c.loop-at.at + 1) c.args.reached.now)) c.args.directives.now
      (λ d. any_more (is_at d.id) c.args.reached.now c.loop-at.at (slice_index_or c.args.reached.now c.loop-at.at None) c.loop-at-test.true (own_item c.args.reached.now c.loop-at.at None c.loop-at-test.true));
  count = c.mark.ensures.count;
}
