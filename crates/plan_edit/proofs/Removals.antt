-- What is left of a plan without a directive.
use Rattle.std.proofs.Common.{◌≡◌, ℕ, zero, suc, ◌<◌, ◌≤◌, ◌&&◌, ◌||◌, not, cond, Bool, true, false, IsTrue, List, [], ◌∷◌, Option, Some, None, option_and_then, option_map, Ok, nat_eq, nat_lt, filter, find, remove, slice_get, length, refl, sym, ap, subst, ◌∙◌, if◌then◌else◌, eq-eqb, eqb-true, ne_eqb, ltb-true, lt-ltb, lt_trans, ne_of_lt, true≢false, arith}
use Rattle.std.proofs.lemmas.Option.{none-some, same_Some}
use Rattle.std.specs.List.{list_any, list_all}
use Rattle.aerie_base.specs.declared.models.model.Parts.{Parts}
use Rattle.aerie_base.specs.declared.plans.Directive.{Directive}
use Rattle.aerie_base.specs.declared.plans.Plan.{Plan}
use Rattle.aerie_base.specs.plans.OfModel.{with_id, anchor_of, anchored_to, ids_of, rise_to, is_there, takes, is_directive_of, IsPlanOf, Rise}
use Rattle.aerie_base.specs.plans.RisingIds.{above, and_too, both}
use Rattle.aerie_base.specs.plans.FoundById.{at_place, eq_back}
use Rattle.plan_merge.specs.Merging.{is_at}
use Rattle.plan_edit.specs.Editing.{is_another, is_anchored_to, without, remove_of, of_directive, unless_anchored}
use Rattle.plan_edit.proofs.Trails.{LeadNoFurther, acyclic_still}

-- an id that is not the one that goes
stays : (a b : ℕ) → nat_eq a b ≡ false → not (nat_eq a b) ≡ true
stays a b h = ap not h

-- ---- the directives that are left

-- directives with greater ids stay
pub all_stay : (most before id : ℕ) (directives : List Directive) → IsTrue (rise_to most before (ids_of directives)) → id < suc before → filter (is_another id) directives ≡ directives
all_stay most before id [] rise low = refl
all_stay most before id (first ∷ rest) rise low =
    let parts = both (nat_lt before first.id) (rise_to most first.id (ids_of rest)) rise in
    let higher : before < first.id = ltb-true before first.id parts.0 in
    let less : id < first.id = omega (arith, low, higher) in
    let further : id < suc first.id = omega (arith, less) in
    ap (λ (t : Bool). cond (not t) (first ∷ filter (is_another id) rest) (filter (is_another id) rest)) (eq_back id first.id false (ne_eqb id first.id (ne_of_lt less)))
    ∙ ap (λ (ds : List Directive). first ∷ ds) (all_stay most first.id id rest parts.1 further)

-- taken out at its position, or by its id
pub removed_by_id : (most before : ℕ) (directives : List Directive) (at : ℕ) (found : Directive) → IsTrue (rise_to most before (ids_of directives)) →
    slice_get directives at ≡ Some found → filter (is_another found.id) directives ≡ remove directives at
removed_by_id most before [] at found rise here = absurd (none-some found here)
removed_by_id most before (first ∷ rest) zero found rise here =
    let parts = both (nat_lt before first.id) (rise_to most first.id (ids_of rest)) rise in
    let same : first.id ≡ found.id = ap (λ (d : Directive). d.id) (same_Some first found here) in
    let low : found.id < suc first.id = omega (arith, same) in
    ap (λ (t : Bool). cond (not t) (first ∷ filter (is_another found.id) rest) (filter (is_another found.id) rest)) (eq-eqb first.id found.id same)
    ∙ all_stay most first.id found.id rest parts.1 low
removed_by_id most before (first ∷ rest) (suc at) found rise here =
    let parts = both (nat_lt before first.id) (rise_to most first.id (ids_of rest)) rise in
    let less = above most first.id rest at found parts.1 here in
    ap (λ (t : Bool). cond (not t) (first ∷ filter (is_another found.id) rest) (filter (is_another found.id) rest)) (ne_eqb first.id found.id (ne_of_lt less))
    ∙ ap (λ (ds : List Directive). first ∷ ds) (removed_by_id most first.id rest at found parts.1 here)

module _ (id : ℕ) where
  left : List Directive → List Directive
  left directives = filter (is_another id) directives

  -- ---- found by id

  gone : (directives : List Directive) → with_id (filter (is_another id) directives) id ≡ None
  gone [] = refl
  gone (first ∷ rest) = go (gone rest) (nat_eq first.id id) refl
    where
      go : with_id (filter (is_another id) rest) id ≡ None → (t : Bool) → nat_eq first.id id ≡ t →
          with_id (cond (not (nat_eq first.id id)) (first ∷ filter (is_another id) rest) (filter (is_another id) rest)) id ≡ None
      go others true e = ap (λ (t : Bool). with_id (cond (not t) (first ∷ filter (is_another id) rest) (filter (is_another id) rest)) id) e ∙ others
      go others false e =
          ap (λ (t : Bool). with_id (cond (not t) (first ∷ filter (is_another id) rest) (filter (is_another id) rest)) id) e
          ∙ ap (λ (t : Bool). if t then Some first else with_id (filter (is_another id) rest) id) e ∙ others

  still_found : (other : ℕ) (directives : List Directive) → nat_eq other id ≡ false → with_id (filter (is_another id) directives) other ≡ with_id directives other
  still_found other [] apart = refl
  still_found other (first ∷ rest) apart = go (still_found other rest apart) (nat_eq first.id id) refl
    where
      differs : nat_eq first.id id ≡ true → nat_eq first.id other ≡ false
      differs e = eq_back other first.id false (ap (nat_eq other) (eqb-true first.id id e) ∙ apart)

      go : with_id (filter (is_another id) rest) other ≡ with_id rest other → (t : Bool) → nat_eq first.id id ≡ t →
          with_id (cond (not (nat_eq first.id id)) (first ∷ filter (is_another id) rest) (filter (is_another id) rest)) other ≡ (if nat_eq first.id other then Some first else with_id rest other)
      go others true e =
          ap (λ (t : Bool). with_id (cond (not t) (first ∷ filter (is_another id) rest) (filter (is_another id) rest)) other) e ∙ others
          ∙ sym (ap (λ (t : Bool). if t then Some first else with_id rest other) (differs e))
      go others false e =
          ap (λ (t : Bool). with_id (cond (not t) (first ∷ filter (is_another id) rest) (filter (is_another id) rest)) other) e
          ∙ ap (λ (o : Option Directive). if nat_eq first.id other then Some first else o) others

  pub no_further : (directives : List Directive) → LeadNoFurther (filter (is_another id) directives) directives
  no_further directives from to h = go (nat_eq from id) refl h
    where
      go : (t : Bool) → nat_eq from id ≡ t → anchor_of (filter (is_another id) directives) from ≡ Some to → anchor_of directives from ≡ Some to
      go true e k =
          absurd (none-some to (sym (ap (option_and_then anchored_to) (ap (with_id (filter (is_another id) directives)) (eqb-true from id e) ∙ gone directives)) ∙ k))
      go false e k = sym (ap (option_and_then anchored_to) (still_found from directives e)) ∙ k

  -- ---- ids

  any_still : (to : ℕ) (directives : List Directive) → nat_eq to id ≡ false → list_any (nat_eq to) (ids_of (filter (is_another id) directives)) ≡ list_any (nat_eq to) (ids_of directives)
  any_still to [] apart = refl
  any_still to (first ∷ rest) apart = go (any_still to rest apart) (nat_eq first.id id) refl
    where
      differs : nat_eq first.id id ≡ true → nat_eq to first.id ≡ false
      differs e = ap (nat_eq to) (eqb-true first.id id e) ∙ apart

      go : list_any (nat_eq to) (ids_of (filter (is_another id) rest)) ≡ list_any (nat_eq to) (ids_of rest) → (t : Bool) → nat_eq first.id id ≡ t →
          list_any (nat_eq to) (ids_of (cond (not (nat_eq first.id id)) (first ∷ filter (is_another id) rest) (filter (is_another id) rest))) ≡ (nat_eq to first.id || list_any (nat_eq to) (ids_of rest))
      go others true e =
          ap (λ (t : Bool). list_any (nat_eq to) (ids_of (cond (not t) (first ∷ filter (is_another id) rest) (filter (is_another id) rest)))) e ∙ others
          ∙ sym (ap (λ (t : Bool). t || list_any (nat_eq to) (ids_of rest)) (differs e))
      go others false e =
          ap (λ (t : Bool). list_any (nat_eq to) (ids_of (cond (not t) (first ∷ filter (is_another id) rest) (filter (is_another id) rest)))) e
          ∙ ap (λ (t : Bool). nat_eq to first.id || t) others

  there_still : (directives : List Directive) (anchor_id : Option ℕ) → is_at id anchor_id ≡ false → is_there (filter (is_another id) directives) anchor_id ≡ is_there directives anchor_id
  there_still directives None apart = refl
  there_still directives (Some to) apart = any_still to directives apart

  lower : (most before higher : ℕ) (ids : List ℕ) → before < higher → IsTrue (rise_to most higher ids) → IsTrue (rise_to most before ids)
  lower most before higher [] less rise = lt-ltb before most (lt_trans less (ltb-true higher most rise))
  lower most before higher (first ∷ ids) less rise =
      let parts = both (nat_lt higher first) (rise_to most first ids) rise in
      and_too (nat_lt before first) (rise_to most first ids) (lt-ltb before first (lt_trans less (ltb-true higher first parts.0))) parts.1

  ids_rise : (most before : ℕ) (directives : List Directive) → IsTrue (rise_to most before (ids_of directives)) → IsTrue (rise_to most before (ids_of (filter (is_another id) directives)))
  ids_rise most before [] rise = rise
  ids_rise most before (first ∷ rest) rise =
      let parts = both (nat_lt before first.id) (rise_to most first.id (ids_of rest)) rise in
      go (ids_rise most first.id rest parts.1) parts.0 (is_another id first)
    where
      go : IsTrue (rise_to most first.id (ids_of (filter (is_another id) rest))) → IsTrue (nat_lt before first.id) → (t : Bool) →
          IsTrue (rise_to most before (ids_of (cond t (first ∷ filter (is_another id) rest) (filter (is_another id) rest))))
      go others less true = and_too (nat_lt before first.id) (rise_to most first.id (ids_of (filter (is_another id) rest))) less others
      go others less false = lower most before first.id (ids_of (filter (is_another id) rest)) (ltb-true before first.id less) others

  fewer : (directives : List Directive) → length (filter (is_another id) directives) ≤ length directives
  fewer [] = omega arith
  fewer (first ∷ rest) = go (fewer rest) (is_another id first)
    where
      go : length (filter (is_another id) rest) ≤ length rest → (t : Bool) → length (cond t (first ∷ filter (is_another id) rest) (filter (is_another id) rest)) ≤ suc (length rest)
      go others true = omega (arith, others)
      go others false = omega (arith, others)

  -- ---- the directives that are left are of the model

  all_left : (model : Parts) (plan : Plan) (some : List Directive) → IsTrue (list_all (is_directive_of model plan) some) → find (is_anchored_to id) some ≡ None →
      IsTrue (list_all (is_directive_of model (without plan id)) (filter (is_another id) some))
  all_left model plan [] good none = refl
  all_left model plan (first ∷ rest) good none =
      let parts = both (is_directive_of model plan first) (list_all (is_directive_of model plan) rest) good in
      go (is_at id (anchored_to first)) refl none parts.0 (all_left model plan rest parts.1) (is_another id first)
    where
      go : (t : Bool) → is_at id (anchored_to first) ≡ t → cond t (Some first) (find (is_anchored_to id) rest) ≡ None → IsTrue (is_directive_of model plan first) →
          (find (is_anchored_to id) rest ≡ None → IsTrue (list_all (is_directive_of model (without plan id)) (filter (is_another id) rest))) → (u : Bool) →
          IsTrue (list_all (is_directive_of model (without plan id)) (cond u (first ∷ filter (is_another id) rest) (filter (is_another id) rest)))
      go true e none one others u = absurd (none-some first (sym none))
      go false e none one others false = others none
      go false e none one others true =
          and_too (is_directive_of model (without plan id) first) (list_all (is_directive_of model (without plan id)) (filter (is_another id) rest))
          (ap (λ (t : Bool). takes model.enums (slice_get model.activities first.kind) first.arguments && nat_lt first.start plan.duration && t) (there_still plan.directives (anchored_to first) e) ∙ one)
          (others none)

  pub left_plan : (model : Parts) (plan : Plan) → find (is_anchored_to id) plan.directives ≡ None → IsPlanOf model plan → IsPlanOf model (without plan id)
  left_plan model plan none of = record {
    duration = of.duration;
    count = omega (arith, of.count, fewer plan.directives);
    next_id = of.next_id;
    ids = ids_rise plan.next_id 0 plan.directives of.ids;
    directives = all_left model plan plan.directives of.directives none;
    anchors = acyclic_still (filter (is_another id) plan.directives) plan.directives (no_further plan.directives) of.anchors;
  }

-- ---- what `remove` does

unmapped : (found : Option Directive) → option_map (λ (d : Directive). d.id) found ≡ None → found ≡ None
unmapped None h = refl
unmapped (Some directive) h = absurd (none-some directive.id (sym h))

module _ (plan : Plan) (at id : ℕ) (rise : Rise plan.directives) (within : at < length plan.directives) (same : slice_get plan.directives at ≡ with_id plan.directives id) where
  pub taken_out : filter (is_another id) plan.directives ≡ remove plan.directives at
  taken_out =
      let one = at_place plan.directives at id within same in
      ap (λ (i : ℕ). filter (is_another i) plan.directives) (sym one.1.1) ∙ removed_by_id rise.0 0 plan.directives at one.0 rise.1 one.1.0

  -- the plan as it is lent, with other directives, where none is anchored to the one that goes
  module _ (none : option_map (λ (d : Directive). d.id) (find (is_anchored_to id) plan.directives) ≡ None) (shown : Plan) (lent : shown ≡ plan) (left : List Directive)
      (is : left ≡ remove shown.directives at) where
    left_out : record shown { directives = left } ≡ without plan id
    left_out =
        ap (λ (p : Plan). record p { directives = left }) lent
        ∙ ap (λ (ds : List Directive). record plan { directives = ds }) (is ∙ ap (λ (p : Plan). remove p.directives at) lent ∙ sym taken_out)

    pub removed : remove_of plan id ≡ Ok (record shown { directives = left })
    removed =
        let one = at_place plan.directives at id within same in
        ap (of_directive (λ directive. unless_anchored (find (is_anchored_to id) plan.directives) (Ok (without plan id)))) (sym same ∙ one.1.0)
        ∙ ap (λ (o : Option Directive). unless_anchored o (Ok (without plan id))) (unmapped (find (is_anchored_to id) plan.directives) none)
        ∙ ap Ok (sym left_out)

    pub still_plan : (model : Parts) → IsPlanOf model plan → IsPlanOf model (record shown { directives = left })
    still_plan model of =
        subst (λ (p : Plan). IsPlanOf model p) (sym left_out) (left_plan id model plan (unmapped (find (is_anchored_to id) plan.directives) none) of)
