-- Workspaces whose branches change stand.
use Rattle.std.proofs.Common.{◌≡◌, ℕ, zero, suc, Bool, true, false, not, ◌&&◌, ◌||◌, IsTrue, List, [], ◌∷◌, ◌++◌, find, Some, None, refl, sym, ap, ◌∙◌, subst, slice_get, true≢false}
use Rattle.std.specs.Prelude.{set, remove}
use Rattle.std.specs.List.{AllByRecursion}
use Rattle.aerie_base.specs.models.Names.{same_name, is_name_among, are_distinct}
use Rattle.aerie_base.specs.models.NameLaws.{among_appended}
use Rattle.hangar_core.specs.declared.branches.Branch.{Branch}
use Rattle.hangar_core.specs.Workspaces.{has_name}
use Rattle.hangar_core.specs.ValidWorkspaces.{branch_names}
use Rattle.hangar_core.proofs.Plain.{none_some, some_same}
use Rattle.hangar_core.proofs.Named.{name_is, same_when}
use Rattle.hangar_core.proofs.Positions.{absent_name, both, is_not}

-- ---- facts on each branch

module _ {X : Type 0} (P : X → Type 0) where
  pub all_get : (xs : List X) (at : ℕ) (x : X) → AllByRecursion P xs → slice_get xs at ≡ Some x → P x
  all_get [] at x h e = absurd (none_some None x refl e)
  all_get (y ∷ ys) zero x h e = subst P (some_same (Some y) y x refl e) h.0
  all_get (y ∷ ys) (suc at) x h e = all_get ys at x h.1 e

  pub all_set : (xs : List X) (at : ℕ) (x : X) → AllByRecursion P xs → P x → AllByRecursion P (set xs at x)
  all_set [] at x h p = h
  all_set (y ∷ ys) zero x h p = (p, h.1)
  all_set (y ∷ ys) (suc at) x h p = (h.0, all_set ys at x h.1 p)

  pub all_removed : (xs : List X) (at : ℕ) → AllByRecursion P xs → AllByRecursion P (remove xs at)
  all_removed [] zero h = h
  all_removed [] (suc at) h = h
  all_removed (y ∷ ys) zero h = h.1
  all_removed (y ∷ ys) (suc at) h = (h.0, all_removed ys at h.1)

  pub all_added : (xs : List X) (x : X) → AllByRecursion P xs → P x → AllByRecursion P (xs ++ x ∷ [])
  all_added [] x h p = (p, tt)
  all_added (y ∷ ys) x h p = (h.0, all_added ys x h.1 p)

-- ---- names

pub names_set : (xs : List Branch) (at : ℕ) (old new : Branch) → slice_get xs at ≡ Some old → new.name ≡ old.name → branch_names (set xs at new) ≡ branch_names xs
names_set [] at old new e n = refl
names_set (y ∷ ys) zero old new e n =
    ap (λ (name : List ℕ). name ∷ branch_names ys) (n ∙ sym (ap (λ (b : Branch). b.name) (some_same (Some y) y old refl e)))
names_set (y ∷ ys) (suc at) old new e n = ap (λ (names : List (List ℕ)). y.name ∷ names) (names_set ys at old new e n)

names_added : (xs : List Branch) (x : Branch) → branch_names (xs ++ x ∷ []) ≡ branch_names xs ++ x.name ∷ []
names_added [] x = refl
names_added (y ∷ ys) x = ap (λ (names : List (List ℕ)). y.name ∷ names) (names_added ys x)

none_among : (name : List ℕ) (names : List (List ℕ)) (at : ℕ) → is_name_among name names ≡ false → is_name_among name (remove names at) ≡ false
none_among name [] zero h = h
none_among name [] (suc at) h = h
none_among name (y ∷ ys) zero h = go (same_name name y) h
  where
    go : (r : Bool) → (r || is_name_among name ys) ≡ false → is_name_among name ys ≡ false
    go true k = absurd (true≢false k)
    go false k = k
none_among name (y ∷ ys) (suc at) h = go (same_name name y) h (none_among name ys at)
  where
    go : (r : Bool) → (r || is_name_among name ys) ≡ false → (is_name_among name ys ≡ false → is_name_among name (remove ys at) ≡ false) →
        (r || is_name_among name (remove ys at)) ≡ false
    go true k more = absurd (true≢false k)
    go false k more = more k

removed_names : (xs : List Branch) (at : ℕ) → branch_names (remove xs at) ≡ remove (branch_names xs) at
removed_names [] zero = refl
removed_names [] (suc at) = refl
removed_names (y ∷ ys) zero = refl
removed_names (y ∷ ys) (suc at) = ap (λ (names : List (List ℕ)). y.name ∷ names) (removed_names ys at)

distinct_left : (names : List (List ℕ)) (at : ℕ) → IsTrue (are_distinct names) → IsTrue (are_distinct (remove names at))
distinct_left [] zero h = h
distinct_left [] (suc at) h = h
distinct_left (y ∷ ys) zero h = (both (not (is_name_among y ys)) (are_distinct ys) h).1
distinct_left (y ∷ ys) (suc at) h =
    let parts = both (not (is_name_among y ys)) (are_distinct ys) h in
    ap (λ r. not r && are_distinct (remove ys at)) (none_among y ys at (is_not (is_name_among y ys) parts.0)) ∙ distinct_left ys at parts.1

pub distinct_removed : (xs : List Branch) (at : ℕ) → IsTrue (are_distinct (branch_names xs)) → IsTrue (are_distinct (branch_names (remove xs at)))
distinct_removed xs at h = subst (λ names. IsTrue (are_distinct names)) (sym (removed_names xs at)) (distinct_left (branch_names xs) at h)

distinct_added : (names : List (List ℕ)) (name : List ℕ) → IsTrue (are_distinct names) → is_name_among name names ≡ false → IsTrue (are_distinct (names ++ name ∷ []))
distinct_added [] name h n = refl
distinct_added (y ∷ ys) name h n =
    let parts = both (not (is_name_among y ys)) (are_distinct ys) h in
    go (same_name name y) refl n parts (distinct_added ys name parts.1)
  where
    apart : (r : Bool) → same_name y name ≡ r → same_name name y ≡ false → same_name y name ≡ false
    apart true e f = absurd (true≢false (sym (ap (λ (x : List ℕ). same_name x y) (sym (name_is y name e)) ∙ own y) ∙ f))
      where
        own : (x : List ℕ) → same_name x x ≡ true
        own x = same_when x x refl
    apart false e f = e

    go : (r : Bool) → same_name name y ≡ r → (r || is_name_among name ys) ≡ false → (not (is_name_among y ys) ≡ true) × (are_distinct ys ≡ true) →
        (is_name_among name ys ≡ false → IsTrue (are_distinct (ys ++ name ∷ []))) → IsTrue (are_distinct ((y ∷ ys) ++ name ∷ []))
    go true e k parts more = absurd (true≢false k)
    go false e k parts more =
        let here : is_name_among y (ys ++ name ∷ []) ≡ false =
        among_appended y ys (name ∷ [])
        ∙ ap (λ r. r || is_name_among y (name ∷ [])) (is_not (is_name_among y ys) parts.0)
        ∙ ap (λ r. r || false) (apart (same_name y name) refl e) in
        ap (λ r. not r && are_distinct (ys ++ name ∷ [])) here ∙ more k

pub distinct_opened : (xs : List Branch) (x : Branch) → IsTrue (are_distinct (branch_names xs)) → find (has_name x.name) xs ≡ None →
    IsTrue (are_distinct (branch_names (xs ++ x ∷ [])))
distinct_opened xs x h n =
    subst (λ names. IsTrue (are_distinct names)) (sym (names_added xs x)) (distinct_added (branch_names xs) x.name h (absent_name x.name xs n))
