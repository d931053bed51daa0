-- The plan of a trial is of the model.
use Rattle.std.proofs.Common.{◌≡◌, ℕ, zero, suc, ◌+◌, ◌<◌, Bool, true, false, not, ◌&&◌, ◌||◌, List, [], ◌∷◌, ◌++◌, length, Option, Some, None, option_and_then, option_map, IsTrue, IfSome, nat_eq, nat_lt, slice_get, Ok, refl, sym, ap, ◌∙◌, subst, arith, ltb-true, if◌then◌else◌}
use Rattle.std.specs.List.{list_all}
use Rattle.std.proofs.lemmas.List.{length-append}
use Rattle.aerie_base.specs.declared.models.model.Parts.{Parts}
use Rattle.aerie_base.specs.declared.plans.Directive.{Directive}
use Rattle.aerie_base.specs.declared.plans.Plan.{Plan}
use Rattle.aerie_base.specs.plans.OfModel.{directive_limit, ids_of, rise_to, takes, with_id, anchored_to, anchor_of, followed, is_there, is_directive_of, IsPlanOf, is_dangling, is_id_of}
use Rattle.aerie_base.specs.plans.RisingIds.{all_pushed, and_too, both, ids_pushed, rise_pushed, there_more}
use Rattle.plan_edit.specs.declared.errors.EditError.TheVariants.{OutsidePlan, TooMany, NoAnchor}
use Rattle.plan_edit.specs.Answers.{then_made_of, unless_refused}
use Rattle.plan_edit.specs.Editing.{is_outside, is_full, with_added}
use Rattle.goals.specs.declared.types.Template.{Template}
use Rattle.goals.specs.OfModel.{is_template}
use Rattle.scheduler.specs.Trials.{directive_with, unless_refusal, made_with}
use Rattle.scheduler.proofs.Templates.{taken_by}

-- ---- when there is a plan

-- the directive may stand there, and the plan is with it
pub record IsMadeWith (plan next : Plan) (template : Template) (time : ℕ) : Type 0 where
  pub inside : is_outside plan time ≡ false
  pub room : is_full plan ≡ false
  pub is : next ≡ with_added plan (directive_with plan template time)

pub placed_there : (plan next : Plan) (template : Template) (time : ℕ) → made_with plan template time ≡ Some next → IsMadeWith plan next template time
placed_there plan next template time e = by (is_outside plan time) (is_full plan) (is_dangling (is_id_of plan.directives) None) refl refl e
  where
    by : (outside full loose : Bool) → is_outside plan time ≡ outside → is_full plan ≡ full →
        unless_refusal (then_made_of (λ directive. Ok (with_added plan directive))
        (unless_refused ((outside, OutsidePlan) ∷ (full, TooMany) ∷ (loose, NoAnchor) ∷ []) (Ok (directive_with plan template time)))) ≡ Some next →
        IsMadeWith plan next template time
    by true full loose o f e = absurd (cc)
    by false true loose o f e = absurd (cc)
    by false false true o f e = absurd (cc)
    by false false false o f e = let same : next ≡ with_added plan (directive_with plan template time) = cc in record { inside = o; room = f; is = same }

-- ---- a directive more

not_false : (a : Bool) → not a ≡ false → a ≡ true
not_false true e = refl
not_false false e = absurd (cc)

neither : (a b : Bool) → (not a || not b) ≡ false → (a ≡ true) × (b ≡ true)
neither true true e = (refl, refl)
neither true false e = absurd (cc)
neither false b e = absurd (cc)

module _ (more : Directive) (loose : more.anchor ≡ None) where
  no_anchor_id : anchored_to more ≡ None
  no_anchor_id = ap (option_map (λ anchor. anchor.to)) loose

  -- a directive without an anchor leads nowhere
  anchor_same : (directives : List Directive) (id : ℕ) → anchor_of (directives ++ more ∷ []) id ≡ anchor_of directives id
  anchor_same [] id = by (nat_eq more.id id)
    where
      by : (here : Bool) → option_and_then anchored_to (if here then Some more else None) ≡ None
      by true = no_anchor_id
      by false = refl
  anchor_same (first ∷ rest) id = by (nat_eq first.id id) (anchor_same rest id)
    where
      by : (here : Bool) → anchor_of (rest ++ more ∷ []) id ≡ anchor_of rest id →
          option_and_then anchored_to (if here then Some first else with_id (rest ++ more ∷ []) id) ≡ option_and_then anchored_to (if here then Some first else with_id rest id)
      by true e = refl
      by false e = e

  followed_same : (directives : List Directive) (steps id : ℕ) → followed (directives ++ more ∷ []) steps id ≡ followed directives steps id
  followed_same directives zero id = refl
  followed_same directives (suc steps) id =
      ap (option_and_then (followed (directives ++ more ∷ []) steps)) (anchor_same directives id) ∙ by (anchor_of directives id) (followed_same directives steps)
    where
      by : (next : Option ℕ) → ((id : ℕ) → followed (directives ++ more ∷ []) steps id ≡ followed directives steps id) →
          option_and_then (followed (directives ++ more ∷ []) steps) next ≡ option_and_then (followed directives steps) next
      by None e = refl
      by (Some next) e = e next

module _ (model : Parts) (plan : Plan) (of : IsPlanOf model plan) (more : Directive) where
  still_good : (directives : List Directive) → IsTrue (list_all (is_directive_of model plan) directives) → IsTrue (list_all (is_directive_of model (with_added plan more)) directives)
  still_good [] all = refl
  still_good (first ∷ rest) all =
      let parts = both (is_directive_of model plan first) (list_all (is_directive_of model plan) rest) all in
      let own = both (takes model.enums (slice_get model.activities first.kind) first.arguments && nat_lt first.start plan.duration) (is_there plan.directives (anchored_to first)) parts.0 in
      and_too (is_directive_of model (with_added plan more) first) (list_all (is_directive_of model (with_added plan more)) rest)
      (and_too (takes model.enums (slice_get model.activities first.kind) first.arguments && nat_lt first.start plan.duration)
      (is_there (plan.directives ++ more ∷ []) (anchored_to first)) own.0 (there_more plan.directives more (anchored_to first) own.1))
      (still_good rest parts.1)

  with_more : more.id ≡ plan.next_id → more.anchor ≡ None → length plan.directives < directive_limit → IsTrue (takes model.enums (slice_get model.activities more.kind) more.arguments) →
      IsTrue (nat_lt more.start plan.duration) → IsPlanOf model (with_added plan more)
  with_more id loose room good start = record {
    duration = of.duration;
    count = omega (arith, room, length-append plan.directives (more ∷ []));
    next_id = omega (arith, of.next_id);
    ids = subst (λ (ids : List ℕ). IsTrue (rise_to (plan.next_id + 1) 0 ids)) (sym (ids_pushed plan.directives more ∙ ap (λ (i : ℕ). ids_of plan.directives ++ i ∷ []) id))
        (rise_pushed (plan.next_id + 1) plan.next_id 0 (ids_of plan.directives) (omega arith) of.ids);
    directives = all_pushed (is_directive_of model (with_added plan more)) plan.directives more (still_good plan.directives of.directives)
        (and_too (takes model.enums (slice_get model.activities more.kind) more.arguments && nat_lt more.start plan.duration)
        (is_there (plan.directives ++ more ∷ []) (anchored_to more))
        (and_too (takes model.enums (slice_get model.activities more.kind) more.arguments) (nat_lt more.start plan.duration) good start)
        (subst (λ (anchor_id : Option ℕ). IsTrue (is_there (plan.directives ++ more ∷ []) anchor_id)) (sym (no_anchor_id more loose)) refl));
    anchors = λ id steps e. of.anchors id steps (sym (followed_same more loose plan.directives (suc steps) id) ∙ e);
  }

-- ---- the plan of a trial

pub made_of_model : (model : Parts) (plan next : Plan) (template : Template) (time : ℕ) → IsPlanOf model plan → IsTrue (is_template model template) →
    made_with plan template time ≡ Some next → IsPlanOf model next
made_of_model model plan next template time of good e =
    let there = placed_there plan next template time e in
    let room = neither (nat_lt (length plan.directives) directive_limit) (nat_lt plan.next_id 4_294_967_295) there.room in
    subst (IsPlanOf model) (sym there.is)
    (with_more model plan of (directive_with plan template time) refl refl (ltb-true (length plan.directives) directive_limit room.0) (taken_by model template good) (not_false (nat_lt time plan.duration) there.inside))

pub made_is_of_model : (model : Parts) (plan : Plan) (template : Template) (time : ℕ) (made : Option Plan) → IsPlanOf model plan →
    IsTrue (is_template model template) → made ≡ made_with plan template time → IfSome made (IsPlanOf model)
made_is_of_model model plan template time None of good e = tt
made_is_of_model model plan template time (Some next) of good e = made_of_model model plan next template time of good (sym e)
