-- Plans of a lock that are merged.
use Rattle.std.proofs.Common.{◌≡◌, refl, sym, ap, subst, ◌∙◌, IfOk, Result, ◌&&◌, Bool, true, false, IsTrue, List, [], ◌∷◌, Some, Ok, slice_get, nat_lt, true≢false}
use Rattle.std.specs.List.{list_all}
use Rattle.std.proofs.lemmas.Option.{same_Some}
use Rattle.std.proofs.lemmas.Bool.{eqb-true}
use Rattle.aerie_base.specs.declared.models.model.Parts.{Parts}
use Rattle.aerie_base.specs.declared.plans.Directive.{Directive}
use Rattle.aerie_base.specs.declared.plans.Plan.{Plan}
use Rattle.aerie_base.specs.plans.OfModel.{IsPlanOf, anchored_to, is_directive_of, is_there, takes}
use Rattle.plan_merge.specs.declared.answers.Merged.{Merged}
use Rattle.plan_merge.specs.declared.answers.MergeError.{MergeError}
use Rattle.plan_merge.specs.Merging.{merge_of}
use Rattle.plan_merge.specs.Plans.{AreMergeable, IsInOrder}
use Rattle.plan_merge.specs.MergedPlanLaws.{of_the_model}
use Rattle.hangar_lock.specs.Passes.{LockView}
use Rattle.client_work.specs.Meanings.{are_of_one_model}
use Rattle.client_work.specs.Working.{IsPlanAt}

first_of : (a b : Bool) → IsTrue (a && b) → IsTrue a
first_of true b both = refl
first_of false b both = both

second_of : (a b : Bool) → IsTrue (a && b) → IsTrue b
second_of true b both = both
second_of false b both = absurd (true≢false (sym both))

pass_both : (a b : Bool) → IsTrue a → IsTrue b → IsTrue (a && b)
pass_both true b first second = second
pass_both false b first second = absurd (true≢false (sym first))

-- ---- plans of a model are in order

anchored : (model : Parts) (plan : Plan) (directives : List Directive) → IsTrue (list_all (is_directive_of model plan) directives) →
    IsTrue (list_all (λ (directive : Directive). is_there plan.directives (anchored_to directive)) directives)
anchored model plan [] all = refl
anchored model plan (directive ∷ rest) all =
    pass_both (is_there plan.directives (anchored_to directive)) (list_all (λ (d : Directive). is_there plan.directives (anchored_to d)) rest)
    (second_of (takes model.enums (slice_get model.activities directive.kind) directive.arguments && nat_lt directive.start plan.duration)
    (is_there plan.directives (anchored_to directive)) (first_of (is_directive_of model plan directive) (list_all (is_directive_of model plan) rest) all))
    (anchored model plan rest (second_of (is_directive_of model plan directive) (list_all (is_directive_of model plan) rest) all))

in_order : (model : Parts) (plan : Plan) → IsPlanOf model plan → IsInOrder plan
in_order model plan of_model = record {
  count = of_model.count;
  ids = of_model.ids;
  anchors = anchored model plan plan.directives of_model.directives;
  acyclic = of_model.anchors;
}

-- ---- of one model

module _ (lock : LockView) (base source target : Plan) (at_base : IsPlanAt lock base) (at_source : IsPlanAt lock source) (at_target : IsPlanAt lock target)
    (alike : are_of_one_model base source target ≡ true) where
  source_alike : source.model ≡ base.model
  source_alike = eqb-true source.model base.model (first_of _ _ alike)

  target_alike : target.model ≡ base.model
  target_alike = eqb-true target.model base.model (second_of _ _ alike)

  pub mergeable : AreMergeable base source target
  mergeable = record {
    base = in_order at_base.among.model base at_base.among.of_model;
    source = in_order at_source.among.model source at_source.among.of_model;
    target = in_order at_target.among.model target at_target.among.of_model;
    source_model = source_alike;
    target_model = target_alike;
    source_duration = at_source.lasts ∙ sym at_base.lasts;
    target_duration = at_target.lasts ∙ sym at_base.lasts;
  }

  -- the merged plan is of the lock as well
  pub merged_at : (merged : Merged) → merge_of base source target ≡ Ok merged → IsInOrder merged.plan → IsPlanAt lock merged.plan
  merged_at merged made order =
      let place : slice_get lock.opened.workspace.models source.model ≡ Some at_target.among.model =
      ap (slice_get lock.opened.workspace.models) (source_alike ∙ sym target_alike) ∙ at_target.among.place in
      let same : at_source.among.model ≡ at_target.among.model = same_Some at_source.among.model at_target.among.model (sym at_source.among.place ∙ place) in
      let like = of_the_model at_target.among.model base source target merged
      (subst (λ (model : Parts). IsPlanOf model source) same at_source.among.of_model) at_target.among.of_model
      (at_source.lasts ∙ sym at_target.lasts) made order in
      record {
        among = record {
          model = at_target.among.model;
          place = ap (slice_get lock.opened.workspace.models) like.same_model ∙ at_target.among.place;
          of_model = like.of_model;
        };
        lasts = like.lasts ∙ at_target.lasts;
      }

  pub placed_at : (made : Result Merged MergeError) (merged : Merged) → made ≡ merge_of base source target → IfOk made (λ (m : Merged). IsInOrder m.plan) → made ≡ Ok merged → IsPlanAt lock merged.plan
  placed_at made merged exact order is = merged_at merged (sym exact ∙ is) (subst (λ (r : Result Merged MergeError). IfOk r (λ (m : Merged). IsInOrder m.plan)) is order)

  -- ---- the same of equal plans

  module _ (b s t : Plan) (same_base : b ≡ base) (same_source : s ≡ source) (same_target : t ≡ target) where
    pub mergeable_as : AreMergeable b s t
    mergeable_as =
        subst (λ (p : Plan). AreMergeable p s t) (sym same_base)
        (subst (λ (p : Plan). AreMergeable base p t) (sym same_source) (subst (AreMergeable base source) (sym same_target) mergeable))

    pub merge_as : merge_of b s t ≡ merge_of base source target
    merge_as = ap (λ (p : Plan). merge_of p s t) same_base ∙ ap (λ (p : Plan). merge_of base p t) same_source ∙ ap (merge_of base source) same_target

pub alike_as : (base source target b s t : Plan) → b ≡ base → s ≡ source → t ≡ target → are_of_one_model b s t ≡ are_of_one_model base source target
alike_as base source target b s t same_base same_source same_target =
    ap (λ (p : Plan). are_of_one_model p s t) same_base ∙ ap (λ (p : Plan). are_of_one_model base p t) same_source ∙ ap (are_of_one_model base source) same_target
