use Rattle.std.proofs.Common.{List, ap, ◌∙◌, map}
use Rattle.std.proofs.lemmas.Result.{IfOk-weaker}
use Rattle.aerie_base.specs.declared.plans.Directive.{Directive}
use Rattle.aerie_base.specs.plans.OfModel.{ids_of}
use Rattle.plan_merge.specs.Renaming.{new_id, with_new_ids, first_new}
use Rattle.plan_merge.proofs.renaming.rename_all.Goals as goal

pub returns : goal.returns
returns c =
    let source = c.args.source.now.directives in
    let base = c.args.base.now.directives in
    let first = first_new c.args.base.now c.args.target.now in
    IfOk-weaker c.rename_by.result _ _
    (λ all h.
    h base first (c.as_slice-2.ensures.value ∙ c.in_ok-ids.ensures ∙ ap (λ bs. map (new_id bs c.first_new-first.result c.as_slice-directives.result.now) (ids_of c.as_slice-directives.result.now)) c.as_slice.ensures
    ∙ ap (λ n. map (new_id base n c.as_slice-directives.result.now) (ids_of c.as_slice-directives.result.now)) c.first_new-first.ensures.value)
    ∙ ap (λ (ds : List Directive). map (with_new_ids (new_id base first ds)) ds) c.as_slice-directives.ensures)
    c.rename_by.ensures
