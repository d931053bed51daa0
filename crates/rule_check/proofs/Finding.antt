-- What is found in a list stands at a position of it.
use Rattle.std.proofs.Common.{◌≡◌, ℕ, zero, suc, ◌+◌, ◌<◌, Bool, true, false, ◌&&◌, List, [], ◌∷◌, Some, None, length, slice_get, nat_lt, refl, sym, ap, subst, ◌∙◌, arith}
use Rattle.std.specs.List.{list_all, find, position, position_or_len}
use Rattle.std.specs.Prelude.{cond}
use Rattle.std.proofs.lemmas.Option.{none-some, same_Some}
use Rattle.std.proofs.lemmas.Bool.{lt-ltb, ltb-true}
use Rattle.diagnostics.specs.ShortNumbers.{short}

-- both of two tests
pub both_pass : (a b : Bool) → (a && b) ≡ true → (a ≡ true) × (b ≡ true)
both_pass true b e = (refl, e)
both_pass false b e = cc

-- a number of a part of a model is kept
pub short_is : (number : ℕ) → number < 65_535 → short number ≡ number
short_is number less = omega (arith, less)

-- what holds of each holds of the one that is found
pub found_holds : {A : Type 0} (holds test : A → Bool) (xs : List A) (x : A) → list_all holds xs ≡ true → find test xs ≡ Some x → holds x ≡ true
found_holds holds test [] x all e = cc
found_holds {A = A} holds test (first ∷ rest) x all e =
    let two = both_pass (holds first) (list_all holds rest) all in
    go (test first) two.0 (found_holds holds test rest x two.1) e
  where
    go : (v : Bool) → holds first ≡ true → (find test rest ≡ Some x → holds x ≡ true) → cond v (Some first) (find test rest) ≡ Some x → holds x ≡ true
    go true here later e = subst (λ (y : A). holds y ≡ true) (same_Some first x e) here
    go false here later e = later e

-- what holds of each holds of the one at a position
pub each_holds : {A : Type 0} (holds : A → Bool) (xs : List A) (at : ℕ) (x : A) → list_all holds xs ≡ true → slice_get xs at ≡ Some x → holds x ≡ true
each_holds holds [] at x all e = absurd (none-some x e)
each_holds holds (first ∷ rest) zero x all e = subst (λ y. holds y ≡ true) (same_Some first x e) (both_pass (holds first) (list_all holds rest) all).0
each_holds holds (first ∷ rest) (suc at) x all e = each_holds holds rest at x (both_pass (holds first) (list_all holds rest) all).1 e

-- the position of what is found
pub record IsPlaced {A : Type 0} (test : A → Bool) (xs : List A) (x : A) : Type 0 where
  pub at : ℕ
  pub is : position test xs ≡ Some at
  pub there : slice_get xs at ≡ Some x

one_more_is : (k : ℕ) → 1 + k ≡ suc k
one_more_is k = omega arith

-- past an element that does not pass, a position is one further
one_further : {A : Type 0} (test : A → Bool) (first : A) (rest : List A) → test first ≡ false → position_or_len test (first ∷ rest) ≡ suc (position_or_len test rest)
one_further test first rest w = rw w (one_more_is (position_or_len test rest))

next_place : (k n at : ℕ) → cond (nat_lt k n) (Some k) None ≡ Some at → cond (nat_lt (suc k) (suc n)) (Some (suc k)) None ≡ Some (suc at)
next_place k n at e = go (nat_lt k n) refl e
  where
    go : (v : Bool) → nat_lt k n ≡ v → cond v (Some k) None ≡ Some at → cond (nat_lt (suc k) (suc n)) (Some (suc k)) None ≡ Some (suc at)
    go true w e =
        let less = ltb-true k n w in
        ap (λ (v : Bool). cond v (Some (suc k)) None) (lt-ltb (suc k) (suc n) (omega (arith, less))) ∙ ap (λ (i : ℕ). Some (suc i)) (same_Some k at e)
    go false w e = cc

pub placed : {A : Type 0} (test : A → Bool) (xs : List A) (x : A) → find test xs ≡ Some x → IsPlaced test xs x
placed test [] x e = cc
placed {A = A} test (first ∷ rest) x e = go (test first) refl (placed test rest x) e
  where
    go : (v : Bool) → test first ≡ v → (find test rest ≡ Some x → IsPlaced test rest x) → cond v (Some first) (find test rest) ≡ Some x → IsPlaced test (first ∷ rest) x
    go true w later e = record { at = 0; is = rw w (ap (λ (v : Bool). cond v (Some 0) None) (lt-ltb 0 (suc (length rest)) (omega arith))); there = e }
    go false w later e =
        let found = later e in
        record {
          at = suc found.at;
          is = ap (λ (n : ℕ). cond (nat_lt n (suc (length rest))) (Some n) None) (one_further test first rest w) ∙ next_place (position_or_len test rest) (length rest) found.at found.is;
          there = found.there;
        }

no_next_place : (k n : ℕ) → cond (nat_lt k n) (Some k) None ≡ None → cond (nat_lt (suc k) (suc n)) (Some (suc k)) None ≡ None
no_next_place k n e = go (nat_lt (suc k) (suc n)) refl
  where
    go : (v : Bool) → nat_lt (suc k) (suc n) ≡ v → cond v (Some (suc k)) None ≡ None
    go true w =
        let less = ltb-true (suc k) (suc n) w in
        absurd (none-some k (sym (subst (λ (v : Bool). cond v (Some k) None ≡ None) (lt-ltb k n (omega (arith, less))) e)))
    go false w = refl

-- where nothing is found there is no position
pub not_placed : {A : Type 0} (test : A → Bool) (xs : List A) → find test xs ≡ None → position test xs ≡ None
not_placed test [] e = refl
not_placed test (first ∷ rest) e = go (test first) refl (not_placed test rest) e
  where
    go : (v : Bool) → test first ≡ v → (find test rest ≡ None → position test rest ≡ None) → cond v (Some first) (find test rest) ≡ None → position test (first ∷ rest) ≡ None
    go true w later e = cc
    go false w later e = ap (λ (n : ℕ). cond (nat_lt n (suc (length rest))) (Some n) None) (one_further test first rest w) ∙ no_next_place (position_or_len test rest) (length rest) (later e)

-- a position stands within the list
pub position_within : {A : Type 0} (test : A → Bool) (xs : List A) (at : ℕ) → position test xs ≡ Some at → at < length xs
position_within {A = A} test xs at e = go (nat_lt (position_or_len test xs) (length xs)) refl e
  where
    go : (v : Bool) → nat_lt (position_or_len test xs) (length xs) ≡ v → cond v (Some (position_or_len test xs)) None ≡ Some at → at < length xs
    go true w e = subst (λ (i : ℕ). i < length xs) (same_Some (position_or_len test xs) at e) (ltb-true (position_or_len test xs) (length xs) w)
    go false w e = cc
