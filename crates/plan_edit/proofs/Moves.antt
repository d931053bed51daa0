-- A plan in which a directive is moved has no cycle where following anchors from its new anchor does not reach it.
use Rattle.std.proofs.Common.{◌≡◌, ℕ, zero, suc, ◌+◌, ◌-◌, ◌<◌, ◌≤◌, ◌&&◌, ◌||◌, ◌⊎◌, inl, inr, Bool, true, false, List, [], ◌∷◌, Option, Some, None, option_map, option_and_then, Result, Ok, length, map, slice_get, slice_set, nat_eq, nat_lt, refl, sym, ap, subst, ◌∙◌, true≢false, eqb-true, eq-eqb, ltb-true, ltb-false, arith, if◌then◌else◌}
use Rattle.std.proofs.lemmas.Option.{none-some, same_Some}
use Rattle.aerie_base.specs.declared.models.model.Parts.{Parts}
use Rattle.aerie_base.specs.declared.plans.Anchor.{Anchor}
use Rattle.aerie_base.specs.declared.plans.When.{When}
use Rattle.aerie_base.specs.declared.plans.Directive.{Directive}
use Rattle.aerie_base.specs.declared.plans.Plan.{Plan}
use Rattle.aerie_base.specs.plans.OfModel.{takes, with_id, anchored_to, anchor_of, followed, is_there, is_directive_of, IsPlanOf, Rise, is_id_of, is_dangling}
use Rattle.aerie_base.specs.plans.FollowedAnchors.{followed_on}
use Rattle.aerie_base.specs.plans.FoundById.{id_found}
use Rattle.aerie_base.specs.plans.RisingIds.{and_too, both}
use Rattle.plan_merge.specs.CycleLaws.{far_round}
use Rattle.plan_edit.specs.declared.errors.EditError.{EditError}
use Rattle.plan_edit.specs.declared.errors.EditError.TheVariants.{OutsidePlan, NoAnchor, Cycle}
use Rattle.plan_edit.specs.Answers.{unless_refused}
use Rattle.plan_edit.specs.Editing.{on_next, reaches_within, leads_to, moved_directive, changed_where, with_changed, is_outside, of_directive, move_of}
use Rattle.plan_edit.proofs.Additions.{denied, found_good}
use Rattle.plan_edit.proofs.Changes.{found_changed, found_there, changed_so, one_changed}
use Rattle.plan_edit.proofs.Trails.{IsAcyclic}

-- ---- following anchors, as a test

module _ (directives : List Directive) (id : ℕ) where
  -- one anchor more
  pub one_step : (count step from : ℕ) → step < count →
      reaches_within directives id (count - step) from ≡ (nat_eq from id || on_next (reaches_within directives id (count - (step + 1))) (anchor_of directives from))
  one_step count step from less = ap (λ (n : ℕ). reaches_within directives id n from) (left count step less)
    where
      left : (count step : ℕ) → step < count → count - step ≡ suc (count - (step + 1))
      left count step less = omega (arith, less)

  pub reached_now : (steps from : ℕ) → nat_eq from id ≡ true → reaches_within directives id steps from ≡ true
  reached_now zero from h = h
  reached_now (suc steps) from h = ap (λ (t : Bool). t || on_next (reaches_within directives id steps) (anchor_of directives from)) h

  pub reached : (steps most from : ℕ) → steps ≤ most → followed directives steps from ≡ Some id → reaches_within directives id most from ≡ true
  reached zero most from less h = reached_now most from (eq-eqb from id (same_Some from id h))
  reached (suc steps) zero from less h = absurd (omega (arith, less))
  reached (suc steps) (suc most) from less h = go (λ next. reached steps most next (omega (arith, less))) (anchor_of directives from) h
    where
      or_last : (a b : Bool) → b ≡ true → (a || b) ≡ true
      or_last true b h = refl
      or_last false b h = h

      go : ((next : ℕ) → followed directives steps next ≡ Some id → reaches_within directives id most next ≡ true) → (next : Option ℕ) → option_and_then (followed directives steps) next ≡ Some id →
          (nat_eq from id || on_next (reaches_within directives id most) next) ≡ true
      go others None k = absurd (none-some id k)
      go others (Some next) k = or_last (nat_eq from id) (reaches_within directives id most next) (others next k)

  pub reached_by : (most from : ℕ) → reaches_within directives id most from ≡ true → (steps : ℕ) × (followed directives steps from ≡ Some id)
  reached_by zero from h = (0, ap Some (eqb-true from id h))
  reached_by (suc most) from h = go (reached_by most) (nat_eq from id) refl (anchor_of directives from) refl h
    where
      go : ((next : ℕ) → reaches_within directives id most next ≡ true → (steps : ℕ) × (followed directives steps next ≡ Some id)) → (t : Bool) → nat_eq from id ≡ t → (next : Option ℕ) →
          anchor_of directives from ≡ next → (t || on_next (reaches_within directives id most) next) ≡ true → (steps : ℕ) × (followed directives steps from ≡ Some id)
      go others true e next is k = (0, ap Some (eqb-true from id e))
      go others false e None is k = absurd (true≢false (sym k))
      go others false e (Some next) is k = let one = others next k in (suc one.0, ap (option_and_then (followed directives one.0)) is ∙ one.1)

  -- without cycles, as many anchors as there are directives are enough
  pub reached_soon : IsAcyclic directives → (steps from : ℕ) → followed directives steps from ≡ Some id → reaches_within directives id (length directives) from ≡ true
  reached_soon acyclic steps from h = go (nat_lt (length directives) steps) refl
    where
      far : (count steps : ℕ) → count < steps → steps ≡ suc count + (steps - suc count)
      far count steps less = omega (arith, less)

      go : (t : Bool) → nat_lt (length directives) steps ≡ t → reaches_within directives id (length directives) from ≡ true
      go false e = reached steps (length directives) from (ltb-false (length directives) steps e) h
      go true e =
          let round = far_round directives (steps - suc (length directives)) from id
          (sym (ap (λ (n : ℕ). followed directives n from) (far (length directives) steps (ltb-true (length directives) steps e))) ∙ h) in
          absurd (acyclic id round.0 round.1.1)

-- ---- the moved directive

module _ (directives : List Directive) (id : ℕ) (to : When) where
  kept_id : (d : Directive) → (changed_where id (moved_directive to) d).id ≡ d.id
  kept_id d = go (nat_eq d.id id)
    where
      go : (t : Bool) → (if t then moved_directive to d else d).id ≡ d.id
      go true = refl
      go false = refl

  abbrev now : List Directive
  now = map (changed_where id (moved_directive to)) directives

  -- from another directive the same anchor leads on
  same_lead : (other : ℕ) → nat_eq other id ≡ false → anchor_of (map (changed_where id (moved_directive to)) directives) other ≡ anchor_of directives other
  same_lead other apart = ap (option_and_then anchored_to) (found_changed (changed_where id (moved_directive to)) kept_id directives other) ∙ go (with_id directives other) refl
    where
      go : (found : Option Directive) → with_id directives other ≡ found → option_and_then anchored_to (option_map (changed_where id (moved_directive to)) found) ≡ option_and_then anchored_to found
      go None is = refl
      go (Some d) is =
          ap (λ (t : Bool). anchored_to (if t then moved_directive to d else d)) (ap (λ (i : ℕ). nat_eq i id) (id_found directives other d is) ∙ apart)

  -- either the moved one is passed, or the same anchors lead on
  walked : (steps from end : ℕ) → followed (map (changed_where id (moved_directive to)) directives) steps from ≡ Some end →
      ((some : ℕ) × ((some < steps) × ((followed (map (changed_where id (moved_directive to)) directives) some from ≡ Some id) × (followed directives some from ≡ Some id)))) ⊎ (followed directives steps from ≡ Some end)
  walked zero from end h = inr h
  walked (suc steps) from end h = go (λ next. walked steps next end) (nat_eq from id) refl (anchor_of (map (changed_where id (moved_directive to)) directives) from) refl h
    where
      go : ((next : ℕ) → followed (map (changed_where id (moved_directive to)) directives) steps next ≡ Some end →
          ((some : ℕ) × ((some < steps) × ((followed (map (changed_where id (moved_directive to)) directives) some next ≡ Some id) × (followed directives some next ≡ Some id)))) ⊎ (followed directives steps next ≡ Some end)) →
          (t : Bool) → nat_eq from id ≡ t → (next : Option ℕ) → anchor_of (map (changed_where id (moved_directive to)) directives) from ≡ next →
          option_and_then (followed (map (changed_where id (moved_directive to)) directives) steps) next ≡ Some end →
          ((some : ℕ) × ((some < suc steps) × ((followed (map (changed_where id (moved_directive to)) directives) some from ≡ Some id) × (followed directives some from ≡ Some id)))) ⊎ (followed directives (suc steps) from ≡ Some end)
      go others true e next is k = inl (0, (omega arith, (ap Some (eqb-true from id e), ap Some (eqb-true from id e))))
      go others false e None is k = absurd (none-some end k)
      go others false e (Some next) is k = on (others next k)
        where
          old : anchor_of directives from ≡ Some next
          old = sym (same_lead from e) ∙ is

          on : ((some : ℕ) × ((some < steps) × ((followed (map (changed_where id (moved_directive to)) directives) some next ≡ Some id) × (followed directives some next ≡ Some id)))) ⊎ (followed directives steps next ≡ Some end) →
              ((some : ℕ) × ((some < suc steps) × ((followed (map (changed_where id (moved_directive to)) directives) some from ≡ Some id) × (followed directives some from ≡ Some id)))) ⊎ (followed directives (suc steps) from ≡ Some end)
          on (inl passed) =
              inl (suc passed.0, (omega (arith, passed.1.0), (ap (option_and_then (followed (map (changed_where id (moved_directive to)) directives) passed.0)) is ∙ passed.1.1.0, ap (option_and_then (followed directives passed.0)) old ∙ passed.1.1.1)))
          on (inr same) = inr (ap (option_and_then (followed directives steps)) old ∙ same)

  -- the anchor of the moved one
  own_lead : (found : Directive) → with_id directives id ≡ Some found → anchor_of (map (changed_where id (moved_directive to)) directives) id ≡ option_map (λ anchor. anchor.to) to.anchor
  own_lead found is =
      ap (option_and_then anchored_to) (found_changed (changed_where id (moved_directive to)) kept_id directives id)
      ∙ ap (λ (o : Option Directive). option_and_then anchored_to (option_map (changed_where id (moved_directive to)) o)) is
      ∙ ap (λ (t : Bool). anchored_to (if t then moved_directive to found else found)) (eq-eqb found.id id (id_found directives id found is))

  -- a walk from the moved one never returns to it
  module _ (acyclic : IsAcyclic directives) (found : Directive) (here : with_id directives id ≡ Some found)
      (apart : (anchor : Anchor) → to.anchor ≡ Some anchor → reaches_within directives id (length directives) anchor.to ≡ false) where
    not_reached : (anchor : Anchor) → to.anchor ≡ Some anchor → (steps : ℕ) → followed directives steps anchor.to ≡ Some id → ⊥
    not_reached anchor is steps h = true≢false (sym (reached_soon directives id acyclic steps anchor.to h) ∙ apart anchor is)

    -- the same of anchors as they are now
    no_return : (anchor : Anchor) → to.anchor ≡ Some anchor → (steps : ℕ) → followed (map (changed_where id (moved_directive to)) directives) steps anchor.to ≡ Some id → ⊥
    no_return anchor is steps h = go (walked steps anchor.to id h)
      where
        go : ((some : ℕ) × ((some < steps) × ((followed (map (changed_where id (moved_directive to)) directives) some anchor.to ≡ Some id) × (followed directives some anchor.to ≡ Some id)))) ⊎ (followed directives steps anchor.to ≡ Some id) → ⊥
        go (inl passed) = not_reached anchor is passed.0 passed.1.1.1
        go (inr same) = not_reached anchor is steps same

    no_round : (steps : ℕ) → followed (map (changed_where id (moved_directive to)) directives) (suc steps) id ≡ Some id → ⊥
    no_round steps h = go to.anchor refl (ap (option_and_then (followed (map (changed_where id (moved_directive to)) directives) steps)) (sym (own_lead found here)) ∙ h)
      where
        go : (anchor : Option Anchor) → to.anchor ≡ anchor → option_and_then (followed (map (changed_where id (moved_directive to)) directives) steps) (option_map (λ anchor. anchor.to) anchor) ≡ Some id → ⊥
        go None is k = none-some id k
        go (Some anchor) is k = no_return anchor is steps k

    pub acyclic_moved : IsAcyclic (map (changed_where id (moved_directive to)) directives)
    acyclic_moved from steps h = go (walked (suc steps) from from h)
      where
        split : (some steps : ℕ) → some < suc steps → suc steps ≡ some + suc (steps - some)
        split some steps less = omega (arith, less)

        whole : (some steps : ℕ) → some < suc steps → suc (steps - some) + some ≡ suc steps
        whole some steps less = omega (arith, less)

        -- once round, from the moved one
        swapped : (some : ℕ) → some < suc steps → followed (map (changed_where id (moved_directive to)) directives) some from ≡ Some id → followed (map (changed_where id (moved_directive to)) directives) (suc steps) id ≡ Some id
        swapped some less there =
            let behind : followed (map (changed_where id (moved_directive to)) directives) (suc (steps - some)) id ≡ Some from =
            sym (ap (option_and_then (followed (map (changed_where id (moved_directive to)) directives) (suc (steps - some)))) there)
            ∙ sym (followed_on (map (changed_where id (moved_directive to)) directives) some (suc (steps - some)) from)
            ∙ sym (ap (λ (n : ℕ). followed (map (changed_where id (moved_directive to)) directives) n from) (split some steps less)) ∙ h in
            sym (ap (λ (n : ℕ). followed (map (changed_where id (moved_directive to)) directives) n id) (whole some steps less))
            ∙ followed_on (map (changed_where id (moved_directive to)) directives) (suc (steps - some)) some id
            ∙ ap (option_and_then (followed (map (changed_where id (moved_directive to)) directives) some)) behind ∙ there

        go : ((some : ℕ) × ((some < suc steps) × ((followed (map (changed_where id (moved_directive to)) directives) some from ≡ Some id) × (followed directives some from ≡ Some id)))) ⊎ (followed directives (suc steps) from ≡ Some from) → ⊥
        go (inl passed) = no_round steps (swapped passed.0 passed.1.0 passed.1.1.0)
        go (inr same) = acyclic from steps same

-- ---- what `move_to` does

apart_of : (plan : Plan) (id : ℕ) (anchors : Option Anchor) → leads_to plan id anchors ≡ false → (anchor : Anchor) → anchors ≡ Some anchor → reaches_within plan.directives id (length plan.directives) anchor.to ≡ false
apart_of plan id None h anchor is = absurd (none-some anchor is)
apart_of plan id (Some own) h anchor is = subst (λ (a : Anchor). reaches_within plan.directives id (length plan.directives) a.to ≡ false) (same_Some own anchor is) h

module _ (plan : Plan) (at id : ℕ) (to : When) (rise : Rise plan.directives) (within : at < length plan.directives) (same : slice_get plan.directives at ≡ with_id plan.directives id)
    (inside : is_outside plan to.start ≡ false) (tied : is_dangling (is_id_of plan.directives) to.anchor ≡ false) (open_ : leads_to plan id to.anchor ≡ false) (made : List Directive)
    (is : (one : Directive) → slice_get plan.directives at ≡ Some one → made ≡ slice_set plan.directives at (moved_directive to one)) where
  changed_is : made ≡ map (changed_where id (moved_directive to)) plan.directives
  changed_is =
      let one = found_there plan.directives at id within same in
      changed_so (moved_directive to) plan.directives at id one.0 made rise one.1.0 one.1.1 is

  none_applies : (a b c : Bool) (result : Result Plan EditError) → a ≡ false → b ≡ false → c ≡ false → unless_refused ((a, OutsidePlan) ∷ (b, NoAnchor) ∷ (c, Cycle) ∷ []) result ≡ result
  none_applies a b c result e f g =
      ap (λ (t : Bool). unless_refused ((t, OutsidePlan) ∷ (b, NoAnchor) ∷ (c, Cycle) ∷ []) result) e
      ∙ ap (λ (t : Bool). unless_refused ((t, NoAnchor) ∷ (c, Cycle) ∷ []) result) f
      ∙ ap (λ (t : Bool). unless_refused ((t, Cycle) ∷ []) result) g

  pub moved_so : move_of plan id to ≡ Ok (record plan { directives = made })
  moved_so =
      let one = found_there plan.directives at id within same in
      ap (of_directive (λ directive. unless_refused ((is_outside plan to.start, OutsidePlan) ∷ (is_dangling (is_id_of plan.directives) to.anchor, NoAnchor) ∷ (leads_to plan id to.anchor, Cycle) ∷ [])
      (Ok (with_changed plan id (moved_directive to))))) one.1.1
      ∙ none_applies (is_outside plan to.start) (is_dangling (is_id_of plan.directives) to.anchor) (leads_to plan id to.anchor) (Ok (with_changed plan id (moved_directive to))) inside tied open_
      ∙ ap (λ (ds : List Directive). Ok (record plan { directives = ds })) (sym changed_is)

  pub moved_plan : (model : Parts) → IsPlanOf model plan → IsPlanOf model (record plan { directives = made })
  moved_plan model of =
      let one = found_there plan.directives at id within same in
      let good = found_good (is_directive_of model plan) plan.directives id one.0 of.directives one.1.1 in
      let parts = both (takes model.enums (slice_get model.activities one.0.kind) one.0.arguments && nat_lt one.0.start plan.duration) (is_there plan.directives (anchored_to one.0)) good in
      let given = both (takes model.enums (slice_get model.activities one.0.kind) one.0.arguments) (nat_lt one.0.start plan.duration) parts.0 in
      subst (λ (ds : List Directive). IsPlanOf model (record plan { directives = ds })) (sym changed_is)
      (one_changed model plan of id one.0 one.1.1 (moved_directive to) (λ d. refl)
      (and_too (takes model.enums (slice_get model.activities one.0.kind) one.0.arguments && nat_lt to.start plan.duration) (is_there plan.directives (option_map (λ anchor. anchor.to) to.anchor))
      (and_too (takes model.enums (slice_get model.activities one.0.kind) one.0.arguments) (nat_lt to.start plan.duration) given.0 (denied (nat_lt to.start plan.duration) inside))
      (denied (is_there plan.directives (option_map (λ anchor. anchor.to) to.anchor)) tied))
      (acyclic_moved plan.directives id to of.anchors one.0 one.1.1 (apart_of plan id to.anchor open_)))
