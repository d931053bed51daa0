-- A file of lemmas: what it proves need not be read to trust a clause.
--
-- Names that differ, in lists that are put together, and in any order.
use Rattle.std.proofs.Common.{◌≡◌, ℕ, Bool, true, false, not, ◌&&◌, ◌||◌, List, [], ◌∷◌, ◌++◌, refl, sym, ap, ◌∙◌, true≢false}
use Rattle.std.specs.List.{list_all, IsDistinct, AllByRecursion}
use Rattle.std.specs.List.Sorted.{IsPermutation}
use Rattle.std.specs.Cmp.Lexicographic.{nat_list_eq_equiv}
use Rattle.std.proofs.lemmas.List.Folds.{list_any-append}
use Rattle.std.proofs.lemmas.List.Sorted.{IsPermutation-sym, list_any-IsPermutation}
use Rattle.std.proofs.lemmas.Map.Keys.{IsDistinct-IsPermutation}
use Rattle.aerie_base.specs.models.Names.{same_name, is_name_among, are_distinct}

-- ---- lists that are put together

pub among_appended : (name : List ℕ) (front back : List (List ℕ)) → is_name_among name (front ++ back) ≡ (is_name_among name front || is_name_among name back)
among_appended name front back = list_any-append (same_name name) front back

regrouped : (here there rest apart behind : Bool) → (not (here || there) && (rest && apart && behind)) ≡ (not here && rest && (not there && apart) && behind)
regrouped true there rest apart behind = refl
regrouped false true true apart behind = refl
regrouped false true false apart behind = refl
regrouped false false true apart behind = refl
regrouped false false false apart behind = refl

joined : (whole here there all rest apart behind : Bool) → whole ≡ (here || there) → all ≡ (rest && apart && behind) →
    (not whole && all) ≡ (not here && rest && (not there && apart) && behind)
joined whole here there all rest apart behind e f =
    ap (λ (b : Bool). not b && all) e ∙ (ap (λ (b : Bool). not (here || there) && b) f ∙ regrouped here there rest apart behind)

-- the names of each list differ, and none of the first is among the second
pub distinct_appended : (front back : List (List ℕ)) →
    are_distinct (front ++ back) ≡ (are_distinct front && list_all (λ name. not (is_name_among name back)) front && are_distinct back)
distinct_appended [] back = refl
distinct_appended (name ∷ front) back =
    joined (is_name_among name (front ++ back)) (is_name_among name front) (is_name_among name back) (are_distinct (front ++ back)) (are_distinct front)
    (list_all (λ other. not (is_name_among other back)) front) (are_distinct back) (among_appended name front back) (distinct_appended front back)

-- ---- any order

pub among_permuted : (name : List ℕ) (names others : List (List ℕ)) → IsPermutation names others → is_name_among name names ≡ is_name_among name others
among_permuted name names others order = list_any-IsPermutation (same_name name) names others order

both : (a b : Bool) → (a && b) ≡ true → (a ≡ true) × (b ≡ true)
both true b h = (refl, h)
both false b h = absurd (true≢false (sym h))

none_apart : (name : List ℕ) (names : List (List ℕ)) → not (is_name_among name names) ≡ true → AllByRecursion (λ other. same_name name other ≡ false) names
none_apart name [] h = tt
none_apart name (other ∷ names) h = go (same_name name other) refl h (none_apart name names)
  where
    go : (same : Bool) → same_name name other ≡ same → not (same || is_name_among name names) ≡ true →
        (not (is_name_among name names) ≡ true → AllByRecursion (λ other. same_name name other ≡ false) names) →
        (same_name name other ≡ false) × AllByRecursion (λ other. same_name name other ≡ false) names
    go true e k rest = absurd (true≢false (sym k))
    go false e k rest = (e, rest k)

apart_none : (name : List ℕ) (names : List (List ℕ)) → AllByRecursion (λ other. same_name name other ≡ false) names → not (is_name_among name names) ≡ true
apart_none name [] h = refl
apart_none name (other ∷ names) h = ap (λ (same : Bool). not (same || is_name_among name names)) h.0 ∙ apart_none name names h.1

-- they differ in std's words
pub distinct_is : (names : List (List ℕ)) → are_distinct names ≡ true → IsDistinct same_name names
unfolding IsDistinct
distinct_is [] h = tt
distinct_is (name ∷ names) h =
    let parts = both (not (is_name_among name names)) (are_distinct names) h in
    (none_apart name names parts.0, distinct_is names parts.1)

pub is_distinct : (names : List (List ℕ)) → IsDistinct same_name names → are_distinct names ≡ true
unfolding IsDistinct
is_distinct [] h = refl
is_distinct (name ∷ names) h = ap (λ (b : Bool). b && are_distinct names) (apart_none name names h.0) ∙ is_distinct names h.1

kept : (names others : List (List ℕ)) → IsPermutation names others → are_distinct names ≡ true → are_distinct others ≡ true
kept names others order h =
    is_distinct others (IsDistinct-IsPermutation same_name nat_list_eq_equiv.symm names others order (distinct_is names h))

-- names differ in one order as in any other
pub distinct_permuted : (names others : List (List ℕ)) → IsPermutation names others → are_distinct names ≡ are_distinct others
distinct_permuted names others order = go (are_distinct names) refl (are_distinct others) refl
  where
    go : (a : Bool) → are_distinct names ≡ a → (b : Bool) → are_distinct others ≡ b → are_distinct names ≡ are_distinct others
    go true e b f = e ∙ sym (kept names others order e)
    go false e true f = absurd (true≢false (sym (kept others names (IsPermutation-sym names others order) f) ∙ e))
    go false e false f = e ∙ sym f
