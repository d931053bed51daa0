use Rattle.std.proofs.Common.{suc, ap, ◌∙◌, map}
use Rattle.std.specs.List.{list_any}
use Rattle.std.proofs.lemmas.Result.{IfOk-weaker}
use Rattle.aerie_base.specs.declared.plans.Directive.{Directive}
use Rattle.plan_merge.specs.CycleLaws.{reached_is_round}
use Rattle.plan_merge.specs.Reached.{reached_after}
use Rattle.plan_merge.specs.Merging.{is_at, is_on_cycle}
use Rattle.plan_merge.proofs.Doubled.{map_same}
use Rattle.plan_merge.proofs.cycles.on_cycles.Goals as goal

pub returns : goal.returns
returns c =
    let ds = c.args.directives.now in
    let far = c.in_ok-reached.ensures in
    IfOk-weaker c.marked.result _ _
    (λ conflicts h. h (is_on_cycle ds)
    (c.as_slice-2.ensures.value ∙ c.in_ok-marks.ensures
    ∙ ap (λ reached. map (λ (d : Directive). list_any (is_at d.id) reached) ds) (c.as_slice.ensures.value ∙ far.1.1)
    ∙ map_same (λ (d : Directive). list_any (is_at d.id) (reached_after ds (suc far.0))) (is_on_cycle ds) ds (λ d. reached_is_round ds far.0 d.id far.1.0)))
    c.marked.ensures
