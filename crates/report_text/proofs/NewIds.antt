-- Directives under new ids: which id each has, and that their anchors lead as before.
use Rattle.std.proofs.Common.{◌≡◌, ℕ, zero, suc, ◌+◌, ◌<◌, ◌≤◌, ◌||◌, Bool, true, false, IsTrue, List, [], ◌∷◌, Option, Some, None, length, map, option_map, nat_eq, nat_lt, position, slice_get, refl, sym, ap, ◌∙◌, subst, arith, true≢false, ltb-true, eq-eqb, ne_eqb, eqb-true, ne_of_lt, if◌then◌else◌}
use Rattle.std.specs.Prelude.{option_and_then, unwrap_or}
use Rattle.std.specs.List.{list_any, list_all}
use Rattle.std.proofs.lemmas.Option.{none-some, same_Some}
use Rattle.aerie_base.specs.declared.plans.Anchor.{Anchor}
use Rattle.aerie_base.specs.declared.plans.Directive.{Directive}
use Rattle.aerie_base.specs.plans.OfModel.{anchored_to, anchor_of, followed, ids_of, is_there, rise_to, with_id}
use Rattle.aerie_base.specs.plans.RisingIds.{above}
use Rattle.plan_merge.specs.Merging.{is_at, is_on_cycle, returns_within}
use Rattle.plan_edit.specs.declared.forms.WrittenDirective.{WrittenDirective}
use Rattle.plan_edit.specs.Loading.{has_cycle, position_in_text, positions_of, the_only}
use Rattle.report_text.specs.LoadedAgain.{loaded_id, to_new_id, under_new_id}
use Rattle.report_text.proofs.FirstPositions.{both, first_position, position_is}

abbrev pub has_id : ℕ → Directive → Bool
has_id id directive = nat_eq directive.id id

-- ---- positions in the text

module _ (written : Directive → WrittenDirective) (same_id : (directive : Directive) → (written directive).id ≡ Some directive.id) (next : ℕ) where
  none_later : (id from before : ℕ) (directives : List Directive) → id ≤ before → IsTrue (rise_to next before (ids_of directives)) → positions_of id from (map written directives) ≡ []
  none_later id from before [] low rise = refl
  none_later id from before (directive ∷ rest) low rise =
      let parts = both (nat_lt before directive.id) (rise_to next directive.id (ids_of rest)) rise in
      let less = ltb-true before directive.id parts.0 in
      ap (λ (o : Option ℕ). if is_at id o then from ∷ positions_of id (from + 1) (map written rest) else positions_of id (from + 1) (map written rest)) (same_id directive)
      ∙ ap (λ (t : Bool). if t then from ∷ positions_of id (from + 1) (map written rest) else positions_of id (from + 1) (map written rest))
      (ne_eqb directive.id id (λ e. too_low directive.id id before e low less))
      ∙ none_later id (from + 1) directive.id rest (omega (arith, low, less)) parts.1
    where
      too_low : (a b c : ℕ) → a ≡ b → b ≤ c → c < a → ⊥
      too_low a b c e low less = absurd (omega (arith, e, low, less))

  the_position : (id from before : ℕ) (directives : List Directive) → IsTrue (rise_to next before (ids_of directives)) →
      the_only (positions_of id from (map written directives)) ≡ option_map (λ (k : ℕ). from + k) (first_position (has_id id) directives)
  the_position id from before [] rise = refl
  the_position id from before (directive ∷ rest) rise =
      let parts = both (nat_lt before directive.id) (rise_to next directive.id (ids_of rest)) rise in
      ap (λ (o : Option ℕ). the_only (if is_at id o then from ∷ positions_of id (from + 1) (map written rest) else positions_of id (from + 1) (map written rest))) (same_id directive)
      ∙ go (nat_eq directive.id id) refl parts.1 (the_position id (from + 1) directive.id rest parts.1)
    where
      alone : (from : ℕ) → from ≡ from + 0
      alone from = omega arith

      one_on : (from : ℕ) (o : Option ℕ) → option_map (λ (k : ℕ). from + 1 + k) o ≡ option_map (λ (k : ℕ). from + k) (option_map suc o)
      one_on from None = refl
      one_on from (Some k) = ap Some (omega arith)

      go : (t : Bool) → nat_eq directive.id id ≡ t → IsTrue (rise_to next directive.id (ids_of rest)) →
          the_only (positions_of id (from + 1) (map written rest)) ≡ option_map (λ (k : ℕ). from + 1 + k) (first_position (has_id id) rest) →
          the_only (if t then from ∷ positions_of id (from + 1) (map written rest) else positions_of id (from + 1) (map written rest))
          ≡ option_map (λ (k : ℕ). from + k) (if t then Some 0 else option_map suc (first_position (has_id id) rest))
      go true e rise later =
          let same = eqb-true directive.id id e in
          ap (λ (ps : List ℕ). the_only (from ∷ ps)) (none_later id (from + 1) directive.id rest (omega (arith, same)) rise)
          ∙ ap Some (alone from)
      go false e rise later = later ∙ one_on from (first_position (has_id id) rest)

  -- the position in the text of the directive with an id
  pub directive_in_text : (directives : List Directive) (id : ℕ) → IsTrue (rise_to next 0 (ids_of directives)) → position_in_text (map written directives) id ≡ position (has_id id) directives
  directive_in_text directives id rise =
      the_position id 0 0 directives rise ∙ from_0 (first_position (has_id id) directives) ∙ sym (position_is (has_id id) directives)
    where
      from_0 : (o : Option ℕ) → option_map (λ (k : ℕ). 0 + k) o ≡ o
      from_0 None = refl
      from_0 (Some k) = ap Some (omega arith)

-- ---- where ids rise

module _ (next : ℕ) where
  position_of_directive : (before : ℕ) (directives : List Directive) (at : ℕ) (directive : Directive) → IsTrue (rise_to next before (ids_of directives)) →
      slice_get directives at ≡ Some directive → first_position (has_id directive.id) directives ≡ Some at
  position_of_directive before [] at directive rise here = absurd (none-some directive here)
  position_of_directive before (first ∷ rest) zero directive rise here =
      ap (λ (t : Bool). if t then Some 0 else option_map suc (first_position (has_id directive.id) rest))
      (eq-eqb first.id directive.id (ap (λ (d : Directive). d.id) (same_Some first directive here)))
  position_of_directive before (first ∷ rest) (suc at) directive rise here =
      let parts = both (nat_lt before first.id) (rise_to next first.id (ids_of rest)) rise in
      ap (λ (t : Bool). if t then Some 0 else option_map suc (first_position (has_id directive.id) rest))
      (ne_eqb first.id directive.id (ne_of_lt (above next first.id rest at directive parts.1 here)))
      ∙ ap (option_map suc) (position_of_directive first.id rest at directive parts.1 here)

module _ (first next : ℕ) (all : List Directive) (rise : IsTrue (rise_to next 0 (ids_of all))) where
  abbrev pub new_id : ℕ → ℕ
  new_id id = loaded_id first all id

  abbrev renewed : Directive → Directive
  renewed directive = under_new_id first all directive

  pub new_at : (at : ℕ) (directive : Directive) → slice_get all at ≡ Some directive → new_id directive.id ≡ first + at
  new_at at directive here =
      ap (λ (o : Option ℕ). first + unwrap_or o 0) (position_is (has_id directive.id) all ∙ position_of_directive next 0 all at directive rise here)

  -- an id is one of a directive
  abbrev pub IsIn : ℕ → Type 0
  IsIn id = IsTrue (list_any (nat_eq id) (ids_of all))

  abbrev Stands : ℕ → List Directive → Type 0
  Stands id directives = (at : ℕ) × ((directive : Directive) × ((slice_get directives at ≡ Some directive) × (directive.id ≡ id)))

  stands_in : (id : ℕ) (directives : List Directive) → IsTrue (list_any (nat_eq id) (ids_of directives)) → Stands id directives
  stands_in id [] is = absurd (true≢false (sym is))
  stands_in id (directive ∷ rest) is = go (nat_eq id directive.id) refl is (stands_in id rest)
    where
      go : (t : Bool) → nat_eq id directive.id ≡ t → IsTrue (t || list_any (nat_eq id) (ids_of rest)) → (IsTrue (list_any (nat_eq id) (ids_of rest)) → Stands id rest) → Stands id (directive ∷ rest)
      go true e h later = (zero, (directive, (refl, sym (eqb-true id directive.id e))))
      go false e h later = let found = later h in (suc found.0, (found.1.0, found.1.1))

  one_id : (one other : ℕ) → IsIn one → IsIn other → new_id one ≡ new_id other → one ≡ other
  one_id one other is also same =
      let a = stands_in one all is in
      let b = stands_in other all also in
      let at_a = ap new_id (sym a.1.1.1) ∙ new_at a.0 a.1.0 a.1.1.0 in
      let at_b = ap new_id (sym b.1.1.1) ∙ new_at b.0 b.1.0 b.1.1.0 in
      let places : a.0 ≡ b.0 = sum_of first a.0 b.0 (sym at_a ∙ same ∙ at_b) in
      let found = sym a.1.1.0 ∙ ap (slice_get all) places ∙ b.1.1.0 in
      sym a.1.1.1 ∙ ap (λ (d : Directive). d.id) (same_Some a.1.0 b.1.0 found) ∙ b.1.1.1
    where
      sum_of : (n a b : ℕ) → n + a ≡ n + b → a ≡ b
      sum_of n a b e = omega (arith, e)

  same_new : (one other : ℕ) → IsIn one → IsIn other → nat_eq (new_id one) (new_id other) ≡ nat_eq one other
  same_new one other is also = go (nat_eq one other) refl
    where
      go : (t : Bool) → nat_eq one other ≡ t → nat_eq (new_id one) (new_id other) ≡ t
      go true e = eq-eqb (new_id one) (new_id other) (ap new_id (eqb-true one other e))
      go false e = ne_eqb (new_id one) (new_id other) (λ same. true≢false (sym (eq-eqb one other (one_id one other is also same)) ∙ e))

  -- ---- anchors

  anchored_by_new_id : (directive : Directive) → anchored_to (renewed directive) ≡ option_map new_id (anchored_to directive)
  anchored_by_new_id directive = go directive.anchor
    where
      go : (anchor : Option Anchor) → option_map (λ anchor. anchor.to) (option_map (to_new_id first all) anchor) ≡ option_map new_id (option_map (λ anchor. anchor.to) anchor)
      go None = refl
      go (Some anchor) = refl

  -- each of some directives has an id of all
  abbrev AreIn : List Directive → Type 0
  AreIn [] = Unit {0}
  AreIn (directive ∷ rest) = IsIn directive.id × AreIn rest

  found_by_new_id : (directives : List Directive) (id : ℕ) → AreIn directives → IsIn id → with_id (map renewed directives) (new_id id) ≡ option_map renewed (with_id directives id)
  found_by_new_id [] id are is = refl
  found_by_new_id (directive ∷ rest) id are is =
      ap (λ (t : Bool). if t then Some (renewed directive) else with_id (map renewed rest) (new_id id)) (same_new directive.id id are.0 is)
      ∙ go (nat_eq directive.id id) (found_by_new_id rest id are.1 is)
    where
      go : (t : Bool) → with_id (map renewed rest) (new_id id) ≡ option_map renewed (with_id rest id) →
          (if t then Some (renewed directive) else with_id (map renewed rest) (new_id id)) ≡ option_map renewed (if t then Some directive else with_id rest id)
      go true later = refl
      go false later = later

  in_front : (n : ℕ) (ids : List ℕ) (b : Bool) → IsTrue b → IsTrue (b || list_any (nat_eq n) ids)
  in_front n ids true h = refl
  in_front n ids false h = absurd (true≢false (sym h))

  or_there : (b c : Bool) → IsTrue c → IsTrue (b || c)
  or_there true c h = refl
  or_there false c h = h

  each_in : (directives : List Directive) → ((id : ℕ) → IsTrue (list_any (nat_eq id) (ids_of directives)) → IsIn id) → AreIn directives
  each_in [] more = tt
  each_in (directive ∷ rest) more = (
    more directive.id (in_front directive.id (ids_of rest) (nat_eq directive.id directive.id) (eq-eqb directive.id directive.id refl)),
    each_in rest (λ id is. more id (or_there (nat_eq id directive.id) (list_any (nat_eq id) (ids_of rest)) is)),
  )

  all_in : AreIn all
  all_in = each_in all (λ id is. is)

  abbrev after : List Directive
  after = map renewed all

  next_by_new_id : (id : ℕ) → IsIn id → anchor_of after (new_id id) ≡ option_map new_id (anchor_of all id)
  next_by_new_id id is = ap (option_and_then anchored_to) (found_by_new_id all id all_in is) ∙ go (with_id all id)
    where
      go : (found : Option Directive) → option_and_then anchored_to (option_map renewed found) ≡ option_map new_id (option_and_then anchored_to found)
      go None = refl
      go (Some directive) = anchored_by_new_id directive

  module _ (tied : IsTrue (list_all (λ directive. is_there all (anchored_to directive)) all)) where
    of_found : (directives : List Directive) (id : ℕ) (directive : Directive) → IsTrue (list_all (λ (d : Directive). is_there all (anchored_to d)) directives) → with_id directives id ≡ Some directive →
        IsTrue (is_there all (anchored_to directive))
    of_found [] id directive are found = absurd (none-some directive found)
    of_found (one ∷ rest) id directive are found =
        let parts = both (is_there all (anchored_to one)) (list_all (λ (d : Directive). is_there all (anchored_to d)) rest) are in
        go (nat_eq one.id id) found parts.0 (λ h. of_found rest id directive parts.1 h)
      where
        go : (t : Bool) → (if t then Some one else with_id rest id) ≡ Some directive → IsTrue (is_there all (anchored_to one)) →
            (with_id rest id ≡ Some directive → IsTrue (is_there all (anchored_to directive))) → IsTrue (is_there all (anchored_to directive))
        go true h is later = subst (λ (d : Directive). IsTrue (is_there all (anchored_to d))) (same_Some one directive h) is
        go false h is later = later h

    next_in : (id to : ℕ) → anchor_of all id ≡ Some to → IsIn to
    next_in id to reached = go (with_id all id) refl reached
      where
        go : (found : Option Directive) → with_id all id ≡ found → option_and_then anchored_to found ≡ Some to → IsIn to
        go None e h = absurd (none-some to h)
        go (Some directive) e h = ap (is_there all) (sym h) ∙ of_found all id directive tied e

    followed_by_new_id : (steps id : ℕ) → IsIn id → followed after steps (new_id id) ≡ option_map new_id (followed all steps id)
    followed_by_new_id zero id is = refl
    followed_by_new_id (suc steps) id is =
        ap (option_and_then (followed after steps)) (next_by_new_id id is) ∙ go (anchor_of all id) (λ to e. followed_by_new_id steps to (next_in id to e))
      where
        go : (reached : Option ℕ) → ((to : ℕ) → reached ≡ Some to → followed after steps (new_id to) ≡ option_map new_id (followed all steps to)) →
            option_and_then (followed after steps) (option_map new_id reached) ≡ option_map new_id (option_and_then (followed all steps) reached)
        go None later = refl
        go (Some to) later = later to refl

    followed_in : (steps id to : ℕ) → IsIn id → followed all steps id ≡ Some to → IsIn to
    followed_in zero id to is h = subst IsIn (same_Some id to h) is
    followed_in (suc steps) id to is h = go (anchor_of all id) (λ between e k. followed_in steps between to (next_in id between e) k) h
      where
        go : (reached : Option ℕ) → ((between : ℕ) → reached ≡ Some between → followed all steps between ≡ Some to → IsIn to) → option_and_then (followed all steps) reached ≡ Some to → IsIn to
        go None later k = absurd (none-some to k)
        go (Some between) later k = later between refl k

    module _ (never : (id steps : ℕ) → followed all (suc steps) id ≡ Some id → ⊥) where
      apart : (id steps : ℕ) → IsIn id → is_at (new_id id) (followed after (suc steps) (new_id id)) ≡ false
      apart id steps is = ap (is_at (new_id id)) (followed_by_new_id (suc steps) id is) ∙ go (followed all (suc steps) id) refl
        where
          unlike : (to : ℕ) → followed all (suc steps) id ≡ Some to → (t : Bool) → nat_eq to id ≡ t → t ≡ false
          unlike to e true same = absurd (never id steps (e ∙ ap Some (eqb-true to id same)))
          unlike to e false same = refl

          go : (reached : Option ℕ) → followed all (suc steps) id ≡ reached → is_at (new_id id) (option_map new_id reached) ≡ false
          go None e = refl
          go (Some to) e = same_new to id (followed_in (suc steps) id to is e) is ∙ unlike to e (nat_eq to id) refl

      returns : (id steps : ℕ) → IsIn id → returns_within after (new_id id) steps ≡ false
      returns id zero is = refl
      returns id (suc steps) is =
          ap (λ (t : Bool). t || returns_within after (new_id id) steps) (apart id steps is) ∙ returns id steps is

      none_on_cycle : (directives : List Directive) → AreIn directives → list_any (is_on_cycle after) (map renewed directives) ≡ false
      none_on_cycle [] are = refl
      none_on_cycle (directive ∷ rest) are =
          ap (λ (t : Bool). t || list_any (is_on_cycle after) (map renewed rest)) (returns directive.id (length after) are.0) ∙ none_on_cycle rest are.1

      -- under new ids no anchors lead back either
      pub no_cycle : has_cycle after ≡ false
      no_cycle = none_on_cycle all all_in
