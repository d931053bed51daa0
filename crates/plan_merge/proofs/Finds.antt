-- What is found by an id among directives whose ids rise.
use Rattle.std.proofs.Common.{◌≡◌, ℕ, zero, suc, ◌<◌, ◌||◌, Bool, true, false, IsTrue, List, [], ◌∷◌, Option, Some, None, map, length, get_or, slice_get, slice_set, slice_index_or, nat_eq, nat_lt, refl, sym, ap, ◌∙◌, eq-eqb, ne_eqb, ne_of_lt, ltb-true, if◌then◌else◌, arith}
use Rattle.std.proofs.lemmas.Option.{none-some, same_Some, slice_get_read}
use Rattle.aerie_base.specs.declared.plans.Directive.{Directive}
use Rattle.aerie_base.specs.plans.OfModel.{rise_to, ids_of, with_id}
use Rattle.aerie_base.specs.plans.FoundById.{at_place, eq_back}
use Rattle.aerie_base.specs.plans.RisingIds.{above, both, found_by_id}
use Rattle.plan_merge.specs.Reached.{reached_from_id}

-- ---- what is reached

pub none_reached : (directives : List Directive) (reached : List (Option ℕ)) (id : ℕ) → with_id directives id ≡ None → reached_from_id directives reached id ≡ None
none_reached [] reached id none = refl
none_reached (first ∷ rest) [] id none = refl
none_reached (first ∷ rest) (reached_one ∷ reached) id none = go (none_reached rest reached id) (nat_eq first.id id) refl none
  where
    go : (with_id rest id ≡ None → reached_from_id rest reached id ≡ None) → (t : Bool) → nat_eq first.id id ≡ t →
        (if t then Some first else with_id rest id) ≡ None → (if nat_eq first.id id then reached_one else reached_from_id rest reached id) ≡ None
    go others true h none = absurd (none-some first (sym none))
    go others false h none = ap (λ (t : Bool). if t then reached_one else reached_from_id rest reached id) h ∙ others none

module _ (most : ℕ) where
  reached_there : (before : ℕ) (directives : List Directive) (reached : List (Option ℕ)) (at : ℕ) (found : Directive) → IsTrue (rise_to most before (ids_of directives)) →
      length reached ≡ length directives → slice_get directives at ≡ Some found → slice_index_or reached at None ≡ reached_from_id directives reached found.id
  reached_there before [] reached at found rise count here = absurd (none-some found here)
  reached_there before (first ∷ rest) [] at found rise count here = absurd (omega (arith, count))
  reached_there before (first ∷ rest) (reached_one ∷ reached) zero found rise count here =
      sym (ap (λ (t : Bool). if t then reached_one else reached_from_id rest reached found.id) (eq-eqb first.id found.id (ap (λ (d : Directive). d.id) (same_Some first found here))))
  reached_there before (first ∷ rest) (reached_one ∷ reached) (suc at) found rise count here =
      let parts = both (nat_lt before first.id) (rise_to most first.id (ids_of rest)) rise in
      let more : length reached ≡ length rest = omega (arith, count) in
      reached_there first.id rest reached at found parts.1 more here
      ∙ sym (ap (λ (t : Bool). if t then reached_one else reached_from_id rest reached found.id) (ne_eqb first.id found.id (ne_of_lt (above most first.id rest at found parts.1 here))))

  -- ---- marks

  -- no directive of greater ids has this one
  none_above : (before id : ℕ) (led : Directive → Bool) (directives : List Directive) → IsTrue (rise_to most before (ids_of directives)) → id < suc before →
      map led directives ≡ map (λ (d : Directive). led d || nat_eq id d.id) directives
  none_above before id led [] rise low = refl
  none_above before id led (first ∷ rest) rise low =
      let parts = both (nat_lt before first.id) (rise_to most first.id (ids_of rest)) rise in
      let higher : before < first.id = ltb-true before first.id parts.0 in
      let less : id < first.id = omega (arith, low, higher) in
      let further : id < suc first.id = omega (arith, less) in
      ap (λ (others : List Bool). led first ∷ others) (none_above first.id id led rest parts.1 further)
      ∙ ap (λ (t : Bool). t ∷ map (λ (d : Directive). led d || nat_eq id d.id) rest) (sym (stays_so (led first) (nat_eq id first.id) (ne_eqb id first.id (ne_of_lt less))))
    where
      stays_so : (a t : Bool) → t ≡ false → (a || t) ≡ a
      stays_so true t h = refl
      stays_so false t h = h

  marked_there : (before : ℕ) (led : Directive → Bool) (directives : List Directive) (at : ℕ) (found : Directive) → IsTrue (rise_to most before (ids_of directives)) →
      slice_get directives at ≡ Some found → slice_set (map led directives) at true ≡ map (λ (d : Directive). led d || nat_eq found.id d.id) directives
  marked_there before led [] at found rise here = absurd (none-some found here)
  marked_there before led (first ∷ rest) zero found rise here =
      let parts = both (nat_lt before first.id) (rise_to most first.id (ids_of rest)) rise in
      let same : found.id ≡ first.id = sym (ap (λ (d : Directive). d.id) (same_Some first found here)) in
      let low : found.id < suc first.id = omega (arith, same) in
      ap (λ (others : List Bool). true ∷ others) (none_above first.id found.id led rest parts.1 low)
      ∙ ap (λ (t : Bool). t ∷ map (λ (d : Directive). led d || nat_eq found.id d.id) rest) (sym (so (led first) (nat_eq found.id first.id) (eq-eqb found.id first.id same)))
    where
      so : (a t : Bool) → t ≡ true → (a || t) ≡ true
      so true t h = refl
      so false t h = h
  marked_there before led (first ∷ rest) (suc at) found rise here =
      let parts = both (nat_lt before first.id) (rise_to most first.id (ids_of rest)) rise in
      let less = above most first.id rest at found parts.1 here in
      ap (λ (others : List Bool). led first ∷ others) (marked_there first.id led rest at found parts.1 here)
      ∙ ap (λ (t : Bool). t ∷ map (λ (d : Directive). led d || nat_eq found.id d.id) rest)
      (sym (so (led first) (nat_eq found.id first.id) (eq_back first.id found.id false (ne_eqb first.id found.id (ne_of_lt less)))))
    where
      so : (a t : Bool) → t ≡ false → (a || t) ≡ a
      so true t h = refl
      so false t h = h

pub unmarked : (led : Directive → Bool) (directives : List Directive) (id : ℕ) → with_id directives id ≡ None →
    map led directives ≡ map (λ (d : Directive). led d || nat_eq id d.id) directives
unmarked led [] id none = refl
unmarked led (first ∷ rest) id none = go (unmarked led rest id) (nat_eq first.id id) refl none
  where
    so : (a t : Bool) → t ≡ false → a ≡ (a || t)
    so true t h = refl
    so false t h = sym h

    go : (with_id rest id ≡ None → map led rest ≡ map (λ (d : Directive). led d || nat_eq id d.id) rest) → (t : Bool) → nat_eq first.id id ≡ t →
        (if t then Some first else with_id rest id) ≡ None →
        led first ∷ map led rest ≡ (led first || nat_eq id first.id) ∷ map (λ (d : Directive). led d || nat_eq id d.id) rest
    go others true h none = absurd (none-some first (sym none))
    go others false h none =
        ap (λ (more : List Bool). led first ∷ more) (others none)
        ∙ ap (λ (t : Bool). t ∷ map (λ (d : Directive). led d || nat_eq id d.id) rest) (so (led first) (nat_eq id first.id) (eq_back first.id id false h))

-- ---- the same at a place that a search found

pub reached_found : (directives : List Directive) (reached : List (Option ℕ)) (at id : ℕ) → (most : ℕ) × IsTrue (rise_to most 0 (ids_of directives)) → length reached ≡ length directives →
    at < length directives → slice_get directives at ≡ with_id directives id → slice_index_or reached at None ≡ reached_from_id directives reached id
reached_found directives reached at id rise count within same =
    let one = at_place directives at id within same in
    reached_there rise.0 0 directives reached at one.0 rise.1 count one.1.0 ∙ ap (reached_from_id directives reached) one.1.1

pub mark_found : (led : Directive → Bool) (directives : List Directive) (at id : ℕ) → (most : ℕ) × IsTrue (rise_to most 0 (ids_of directives)) →
    at < length directives → slice_get directives at ≡ with_id directives id → slice_set (map led directives) at true ≡ map (λ (d : Directive). led d || nat_eq id d.id) directives
mark_found led directives at id rise within same =
    let one = at_place directives at id within same in
    marked_there rise.0 0 led directives at one.0 rise.1 one.1.0 ∙ ap (λ (i : ℕ). map (λ (d : Directive). led d || nat_eq i d.id) directives) one.1.1

-- an item is the directive with its id
pub item_found : (items directives : List Directive) → items ≡ directives → (most : ℕ) × IsTrue (rise_to most 0 (ids_of directives)) → (at : ℕ) (item : Directive) →
    at < length items → item ≡ get_or items at item → with_id directives item.id ≡ Some item
item_found items directives same rise at item within here =
    found_by_id rise.0 0 directives at item rise.1 (ap (λ ds. slice_get ds at) (sym same) ∙ slice_get_read items (length items) at item refl within here)
