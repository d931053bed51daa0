-- A plan with a directive more is of the model again.
use Rattle.std.proofs.Common.{◌≡◌, ℕ, zero, suc, ◌+◌, ◌<◌, ◌&&◌, ◌||◌, not, Bool, true, false, IsTrue, List, [], ◌∷◌, ◌++◌, Option, Some, None, is_some, option_map, option_and_then, Result, Ok, length, slice_get, nat_eq, nat_lt, refl, sym, ap, subst, ◌∙◌, true≢false, ltb-true, arith, if◌then◌else◌}
use Rattle.std.specs.List.{list_any, list_all}
use Rattle.std.proofs.lemmas.List.{length-append}
use Rattle.std.proofs.lemmas.List.Folds.{list_any-append}
use Rattle.std.proofs.lemmas.Option.{none-some, same_Some}
use Rattle.aerie_base.specs.declared.values.Value.{Value}
use Rattle.aerie_base.specs.declared.arguments.RawArgument.{RawArgument}
use Rattle.aerie_base.specs.declared.models.Activity.{Activity}
use Rattle.aerie_base.specs.declared.models.model.Parts.{Parts}
use Rattle.aerie_base.specs.declared.plans.When.{When}
use Rattle.aerie_base.specs.declared.plans.Directive.{Directive}
use Rattle.aerie_base.specs.declared.plans.Plan.{Plan}
use Rattle.aerie_base.specs.models.Signatures.{parameter_kinds}
use Rattle.aerie_base.specs.models.ValidModel.{valid_model}
use Rattle.aerie_base.specs.plans.OfModel.{directive_limit, rise_to, ids_of, are_values_of, takes, with_id, anchored_to, anchor_of, followed, is_there, is_directive_of, IsPlanOf, is_id_of, is_dangling}
use Rattle.aerie_base.specs.plans.RisingIds.{all_pushed, and_too, both, ids_pushed, or_first, rise_pushed, there_more}
use Rattle.aerie_base.specs.plans.FoundById.{among}
use Rattle.plan_edit.specs.declared.errors.EditError.{EditError}
use Rattle.plan_edit.specs.declared.arguments.Given.{Given}
use Rattle.plan_edit.specs.Answers.{unless_refused, then_made_of}
use Rattle.plan_edit.specs.Arguments.{arguments_of}
use Rattle.plan_edit.specs.Requires.{first_unmet}
use Rattle.plan_edit.specs.Editing.{unless_unmet, if_met, given_to, given_at_position, given_of, type_position, is_outside, is_full, new_directive, with_added, directive_placed, directive_added}
use Rattle.plan_edit.proofs.Given.{part_of, arguments_good}
use Rattle.plan_edit.proofs.Types.{type_good}
use Rattle.plan_edit.proofs.Trails.{IsAcyclic}

-- ---- what is made where nothing is refused

-- none of three refusals applies
pub none_of_three : {A : Type 0} (a b c : Bool) (x y z : EditError) (made : Result A EditError) (all : A) →
    unless_refused ((a, x) ∷ (b, y) ∷ (c, z) ∷ []) made ≡ Ok all → (a ≡ false) × ((b ≡ false) × ((c ≡ false) × (made ≡ Ok all)))
none_of_three true b c x y z made all h = absurd (cc)
none_of_three false true c x y z made all h = absurd (cc)
none_of_three false false true x y z made all h = absurd (cc)
none_of_three false false false x y z made all h = (refl, (refl, (refl, h)))

pub denied : (a : Bool) → not a ≡ false → a ≡ true
denied true h = refl
denied false h = absurd (true≢false h)

pub neither : (a b : Bool) → (not a || not b) ≡ false → (a ≡ true) × (b ≡ true)
neither true true h = (refl, refl)
neither true false h = absurd (true≢false h)
neither false b h = absurd (true≢false h)

-- where a directive is placed
pub record IsPlaced (plan : Plan) (at : When) (given : Given) (directive : Directive) : Type 0 where
  pub start : nat_lt at.start plan.duration ≡ true
  pub count : length plan.directives < directive_limit
  pub next : plan.next_id < 4_294_967_295
  pub anchor : IsTrue (is_there plan.directives (option_map (λ anchor. anchor.to) at.anchor))
  pub is : new_directive plan at given ≡ directive

pub placed_so : (plan : Plan) (at : When) (given : Given) (directive : Directive) → directive_placed plan at given ≡ Ok directive → IsPlaced plan at given directive
placed_so plan at given directive h =
    let none = none_of_three (is_outside plan at.start) (is_full plan) (is_dangling (is_id_of plan.directives) at.anchor) _ _ _ (Ok (new_directive plan at given)) directive h in
    let room = neither (nat_lt (length plan.directives) directive_limit) (nat_lt plan.next_id 4_294_967_295) none.1.0 in
    let same : new_directive plan at given ≡ directive = cc in
    record {
      start = denied (nat_lt at.start plan.duration) none.0;
      count = ltb-true (length plan.directives) directive_limit room.0;
      next = ltb-true plan.next_id 4_294_967_295 room.1;
      anchor = denied (is_there plan.directives (option_map (λ anchor. anchor.to) at.anchor)) none.1.1.0;
      is = same;
    }

-- what is given is of the model
pub met_is : (activity : Activity) (values met : List Value) → if_met activity values ≡ Ok met → values ≡ met
met_is activity values met h = go (first_unmet 0 values activity.requires_) h
  where
    go : (unmet : Option ℕ) → unless_unmet unmet values ≡ Ok met → values ≡ met
    go None h = cc
    go (Some number) h = absurd (cc)

module _ (model : Parts) (valid : IsTrue (valid_model model)) where
  takes_given : (kind : ℕ) (arguments : List RawArgument) (given : Given) (found : Option Activity) → slice_get model.activities kind ≡ found → given_to model kind arguments found ≡ Ok given →
      IsTrue (takes model.enums (slice_get model.activities given.kind) given.arguments)
  takes_given kind arguments given None is h = absurd (cc)
  takes_given kind arguments given (Some activity) is h =
      let last = part_of (λ values. Ok (record { kind = kind; arguments = values })) (then_made_of (if_met activity) (arguments_of model.enums activity.parameters arguments)) given h in
      let first = part_of (if_met activity) (arguments_of model.enums activity.parameters arguments) last.0 last.1.0 in
      let same : record { kind = kind; arguments = last.0 } ≡ given = cc last.1.1 in
      let type = type_good model valid kind activity is in
      let good = arguments_good model.enums arguments activity.parameters first.0 type.parameters first.1.0 in
      subst (λ (g : Given). IsTrue (takes model.enums (slice_get model.activities g.kind) g.arguments)) same
      (subst (λ (found : Option Activity). IsTrue (takes model.enums found last.0)) (sym is)
      (subst (λ (values : List Value). IsTrue (are_values_of model.enums (parameter_kinds activity) values)) (met_is activity first.0 last.0 first.1.1) good))

  pub given_good : (name : List ℕ) (arguments : List RawArgument) (given : Given) → given_of model name arguments ≡ Ok given →
      IsTrue (takes model.enums (slice_get model.activities given.kind) given.arguments)
  given_good name arguments given h = go (type_position model name) h
    where
      go : (position : Option ℕ) → given_at_position model arguments position ≡ Ok given → IsTrue (takes model.enums (slice_get model.activities given.kind) given.arguments)
      go None h = absurd (cc)
      go (Some kind) h = takes_given kind arguments given (slice_get model.activities kind) refl h

-- ---- anchors of a plan with a directive more

-- the directive with an id, in front or behind
front_found : (some : List Directive) (more : Directive) (id : ℕ) (found : Directive) → with_id some id ≡ Some found → with_id (some ++ more ∷ []) id ≡ Some found
front_found [] more id found h = absurd (none-some found h)
front_found (first ∷ rest) more id found h = go (front_found rest more id found) (nat_eq first.id id) h
  where
    go : (with_id rest id ≡ Some found → with_id (rest ++ more ∷ []) id ≡ Some found) → (t : Bool) → (if t then Some first else with_id rest id) ≡ Some found →
        (if t then Some first else with_id (rest ++ more ∷ []) id) ≡ Some found
    go others true h = h
    go others false h = others h

back_found : (some : List Directive) (more : Directive) (id : ℕ) → with_id some id ≡ None → with_id (some ++ more ∷ []) id ≡ with_id (more ∷ []) id
back_found [] more id h = refl
back_found (first ∷ rest) more id h = go (back_found rest more id) (nat_eq first.id id) h
  where
    go : (with_id rest id ≡ None → with_id (rest ++ more ∷ []) id ≡ with_id (more ∷ []) id) → (t : Bool) → (if t then Some first else with_id rest id) ≡ None →
        (if t then Some first else with_id (rest ++ more ∷ []) id) ≡ with_id (more ∷ []) id
    go others true h = absurd (none-some first (sym h))
    go others false h = others h

-- what holds of each holds of the one with an id
pub found_good : (test : Directive → Bool) (some : List Directive) (id : ℕ) (found : Directive) → IsTrue (list_all test some) → with_id some id ≡ Some found → IsTrue (test found)
found_good test [] id found good h = absurd (none-some found h)
found_good test (first ∷ rest) id found good h =
    let parts = both (test first) (list_all test rest) good in
    go parts.0 (found_good test rest id found parts.1) (nat_eq first.id id) h
  where
    go : IsTrue (test first) → (with_id rest id ≡ Some found → IsTrue (test found)) → (t : Bool) → (if t then Some first else with_id rest id) ≡ Some found → IsTrue (test found)
    go one others true h = subst (λ (d : Directive). IsTrue (test d)) (same_Some first found h) one
    go one others false h = others h

-- the anchor of a directive of a plan is there
pub anchor_good : (model : Parts) (plan : Plan) (directive : Directive) → IsTrue (is_directive_of model plan directive) → IsTrue (is_there plan.directives (anchored_to directive))
anchor_good model plan directive good =
    (both (takes model.enums (slice_get model.activities directive.kind) directive.arguments && nat_lt directive.start plan.duration)
    (is_there plan.directives (anchored_to directive)) good).1

module _ (some : List Directive) (more : Directive)
    (anchors : (id to : ℕ) → anchor_of some id ≡ Some to → IsTrue (is_there some (Some to)))
    (anchor : IsTrue (is_there some (anchored_to more))) where
  -- each anchor leads to one of the others
  leads_back : (id to : ℕ) → anchor_of (some ++ more ∷ []) id ≡ Some to → IsTrue (is_there some (Some to))
  leads_back id to h = go (with_id some id) refl
    where
      own : (t : Bool) → option_and_then anchored_to (if t then Some more else None) ≡ Some to → IsTrue (is_there some (Some to))
      own true k = subst (λ (anchor_id : Option ℕ). IsTrue (is_there some anchor_id)) k anchor
      own false k = absurd (none-some to k)

      go : (found : Option Directive) → with_id some id ≡ found → IsTrue (is_there some (Some to))
      go (Some found) is = anchors id to (ap (option_and_then anchored_to) is ∙ sym (ap (option_and_then anchored_to) (front_found some more id found is)) ∙ h)
      go None is = own (nat_eq more.id id) (sym (ap (option_and_then anchored_to) (back_found some more id is)) ∙ h)

  -- from one of the others the same anchor leads on
  same_lead : (id : ℕ) → IsTrue (is_there some (Some id)) → anchor_of (some ++ more ∷ []) id ≡ anchor_of some id
  same_lead id there = go (with_id some id) refl
    where
      go : (found : Option Directive) → with_id some id ≡ found → anchor_of (some ++ more ∷ []) id ≡ anchor_of some id
      go (Some found) is = ap (option_and_then anchored_to) (front_found some more id found is ∙ sym is)
      go None is = absurd (true≢false (sym there ∙ sym (among some id) ∙ ap is_some is))

  last_there : (steps id to : ℕ) → followed (some ++ more ∷ []) (suc steps) id ≡ Some to → IsTrue (is_there some (Some to))
  last_there zero id to h = go (anchor_of (some ++ more ∷ []) id) refl h
    where
      go : (next : Option ℕ) → anchor_of (some ++ more ∷ []) id ≡ next → option_and_then (followed (some ++ more ∷ []) 0) next ≡ Some to → IsTrue (is_there some (Some to))
      go None is k = absurd (none-some to k)
      go (Some next) is k = subst (λ (n : ℕ). IsTrue (is_there some (Some n))) (same_Some next to k) (leads_back id next is)
  last_there (suc steps) id to h = go (λ next. last_there steps next to) (anchor_of (some ++ more ∷ []) id) h
    where
      go : ((next : ℕ) → followed (some ++ more ∷ []) (suc steps) next ≡ Some to → IsTrue (is_there some (Some to))) → (next : Option ℕ) →
          option_and_then (followed (some ++ more ∷ []) (suc steps)) next ≡ Some to → IsTrue (is_there some (Some to))
      go others None k = absurd (none-some to k)
      go others (Some next) k = others next k

  followed_same : (steps id to : ℕ) → IsTrue (is_there some (Some id)) → followed (some ++ more ∷ []) steps id ≡ Some to → followed some steps id ≡ Some to
  followed_same zero id to there h = h
  followed_same (suc steps) id to there h = go (λ next. followed_same steps next to) (anchor_of (some ++ more ∷ []) id) refl h
    where
      go : ((next : ℕ) → IsTrue (is_there some (Some next)) → followed (some ++ more ∷ []) steps next ≡ Some to → followed some steps next ≡ Some to) → (next : Option ℕ) →
          anchor_of (some ++ more ∷ []) id ≡ next → option_and_then (followed (some ++ more ∷ []) steps) next ≡ Some to → option_and_then (followed some steps) (anchor_of some id) ≡ Some to
      go others None is k = absurd (none-some to k)
      go others (Some next) is k = ap (option_and_then (followed some steps)) (sym (same_lead id there) ∙ is) ∙ others next (leads_back id next is) k

  pub acyclic_more : IsAcyclic some → IsAcyclic (some ++ more ∷ [])
  acyclic_more acyclic id steps h = acyclic id steps (followed_same (suc steps) id id (last_there steps id id h) h)

-- ---- the plan

module _ (model : Parts) (valid : IsTrue (valid_model model)) (plan : Plan) (of : IsPlanOf model plan) where
  still_good : (more : Directive) (some : List Directive) → IsTrue (list_all (is_directive_of model plan) some) → IsTrue (list_all (is_directive_of model (with_added plan more)) some)
  still_good more [] all = refl
  still_good more (first ∷ rest) all =
      let parts = both (is_directive_of model plan first) (list_all (is_directive_of model plan) rest) all in
      let own = both (takes model.enums (slice_get model.activities first.kind) first.arguments && nat_lt first.start plan.duration) (is_there plan.directives (anchored_to first)) parts.0 in
      and_too (is_directive_of model (with_added plan more) first) (list_all (is_directive_of model (with_added plan more)) rest)
      (and_too (takes model.enums (slice_get model.activities first.kind) first.arguments && nat_lt first.start plan.duration)
      (is_there (plan.directives ++ more ∷ []) (anchored_to first)) own.0 (there_more plan.directives more (anchored_to first) own.1))
      (still_good more rest parts.1)

  anchors_good : (id to : ℕ) → anchor_of plan.directives id ≡ Some to → IsTrue (is_there plan.directives (Some to))
  anchors_good id to h = go (with_id plan.directives id) refl h
    where
      go : (found : Option Directive) → with_id plan.directives id ≡ found → option_and_then anchored_to found ≡ Some to → IsTrue (is_there plan.directives (Some to))
      go None is k = absurd (none-some to k)
      go (Some found) is k =
          subst (λ (anchor_id : Option ℕ). IsTrue (is_there plan.directives anchor_id)) k
          (anchor_good model plan found (found_good (is_directive_of model plan) plan.directives id found of.directives is))

  pub with_one_more : (at : When) (given : Given) (more : Directive) → IsPlaced plan at given more → IsTrue (takes model.enums (slice_get model.activities given.kind) given.arguments) →
      IsPlanOf model (with_added plan more)
  with_one_more at given more placed good =
      subst (λ (d : Directive). IsPlanOf model (with_added plan d)) placed.is
      (made (new_directive plan at given) refl
      (and_too (takes model.enums (slice_get model.activities given.kind) given.arguments && nat_lt at.start plan.duration)
      (is_there (plan.directives ++ new_directive plan at given ∷ []) (anchored_to (new_directive plan at given)))
      (and_too (takes model.enums (slice_get model.activities given.kind) given.arguments) (nat_lt at.start plan.duration) good placed.start)
      (there_more plan.directives (new_directive plan at given) (anchored_to (new_directive plan at given)) placed.anchor))
      placed.anchor)
    where
      count_of : (more : Directive) → length (plan.directives ++ more ∷ []) ≡ length plan.directives + 1
      count_of more = length-append plan.directives (more ∷ [])

      made : (more : Directive) → more.id ≡ plan.next_id → IsTrue (is_directive_of model (with_added plan more) more) → IsTrue (is_there plan.directives (anchored_to more)) → IsPlanOf model (with_added plan more)
      made more id one anchor = record {
        duration = of.duration;
        count = omega (arith, placed.count, count_of more);
        next_id = omega (arith, of.next_id);
        ids = subst (λ (ids : List ℕ). IsTrue (rise_to (plan.next_id + 1) 0 ids)) (sym (ids_pushed plan.directives more ∙ ap (λ (i : ℕ). ids_of plan.directives ++ i ∷ []) id))
            (rise_pushed (plan.next_id + 1) plan.next_id 0 (ids_of plan.directives) (omega arith) of.ids);
        directives = all_pushed (is_directive_of model (with_added plan more)) plan.directives more (still_good more plan.directives of.directives) one;
        anchors = acyclic_more plan.directives more anchors_good anchor of.anchors;
      }

  -- ---- what `add` does

  pub added_plan : (at : When) (name : List ℕ) (arguments : List RawArgument) (more : Directive) → directive_added model plan at name arguments ≡ Ok more → IsPlanOf model (with_added plan more)
  added_plan at name arguments more h =
      let part = part_of (directive_placed plan at) (given_of model name arguments) more h in
      with_one_more at part.0 more (placed_so plan at part.0 more part.1.1) (given_good model valid name arguments part.0 part.1.0)
