-- What nothing that was found says, and what stands at the position of the first that passes.
use Rattle.std.proofs.Common.{◌≡◌, ℕ, zero, suc, ◌<◌, ◌≤◌, Bool, true, false, not, ◌&&◌, ◌||◌, List, [], ◌∷◌, Option, Some, None, is_some, length, get_or, map, position, slice_get, find, nat_eq, eqb-true, eq-eqb, lt-ltb, refl, sym, ap, ◌∙◌, subst, arith, true≢false, if◌then◌else◌}
use Rattle.std.proofs.lemmas.List.Quantifiers.{position-Some}
use Rattle.std.proofs.lemmas.Option.{none-some, same_Some, slice_get-get_or}
use Rattle.std.specs.List.{AllByRecursion, list_all, list_any, position_or_len}
use Rattle.aerie_base.specs.models.Names.{are_distinct, is_name_among, same_name}
use Rattle.diagnostics.specs.ShortNumbers.{short}

-- ---- truths

pub both_true : (a b : Bool) → (a && b) ≡ true → (a ≡ true) × (b ≡ true)
both_true true b e = (refl, e)
both_true false b e = absurd (true≢false (sym e))

pub and_too : (a b : Bool) → a ≡ true → b ≡ true → (a && b) ≡ true
and_too true b h k = k
and_too false b h k = absurd (true≢false (sym h))

pub not_true : (b : Bool) → not b ≡ true → b ≡ false
not_true true e = absurd (true≢false (sym e))
not_true false e = refl

pub each_true : {A : Type 0} (test : A → Bool) (xs : List A) (i : ℕ) (x : A) → list_all test xs ≡ true → slice_get xs i ≡ Some x → test x ≡ true
each_true test [] i x all here = absurd (none-some x here)
each_true test (first ∷ rest) zero x all here = subst (λ y. test y ≡ true) (same_Some first x here) (both_true (test first) (list_all test rest) all).0
each_true test (first ∷ rest) (suc i) x all here = each_true test rest i x (both_true (test first) (list_all test rest) all).1 here

-- ---- the first that passes

-- what stands at a position, and passes
pub record StandsAt {A : Type 0} (test : A → Bool) (xs : List A) (i : ℕ) : Type 0 where
  pub one : A
  pub here : slice_get xs i ≡ Some one
  pub within : i < length xs
  pub passes : test one ≡ true

pub found_at : {A : Type 0} (test : A → Bool) (xs : List A) (i : ℕ) → position test xs ≡ Some i → StandsAt test xs i
found_at test [] i h = absurd (none-some i h)
found_at test (y ∷ ys) i h =
    let p = position-Some test (y ∷ ys) i y h in
    record { one = get_or (y ∷ ys) i y; here = slice_get-get_or (y ∷ ys) i y p.0; within = p.0; passes = p.1 }

-- a position that is there
pub record IsPosition (place : Option ℕ) : Type 0 where
  pub number : ℕ
  pub is : place ≡ Some number

pub there : (place : Option ℕ) → is_some place ≡ true → IsPosition place
there None h = absurd (true≢false (sym h))
there (Some number) h = record { number = number; is = refl }

-- ---- numbers of 16 bits

pub short_is : (number : ℕ) → number ≤ 65535 → short number ≡ number
short_is number le = omega arith

-- ---- tests of a list

any_within : {A : Type 0} (test : A → Bool) (xs : List A) → list_any test xs ≡ true → position_or_len test xs < length xs
any_within test [] h = absurd (true≢false (sym h))
any_within test (x ∷ xs) h = go (test x) refl h (any_within test xs)
  where
    go : (t : Bool) → test x ≡ t → (t || list_any test xs) ≡ true → (list_any test xs ≡ true → position_or_len test xs < length xs) → position_or_len test (x ∷ xs) < suc (length xs)
    go true e h more = rw e (omega arith)
    go false e h more = let lt = more h in rw e (omega (arith, lt))

-- what one passes has a first that passes
pub any_position : {A : Type 0} (test : A → Bool) (xs : List A) → list_any test xs ≡ true → is_some (position test xs) ≡ true
any_position test xs h = ap (λ (b : Bool). is_some (if b then Some (position_or_len test xs) else None)) (lt-ltb (position_or_len test xs) (length xs) (any_within test xs h))

pub none_found : {A : Type 0} (test : A → Bool) (xs : List A) → find test xs ≡ None → list_any test xs ≡ false
none_found test [] h = refl
none_found test (x ∷ xs) h = go (test x) refl h (none_found test xs)
  where
    go : (t : Bool) → test x ≡ t → (if t then Some x else find test xs) ≡ None → (find test xs ≡ None → list_any test xs ≡ false) → (test x || list_any test xs) ≡ false
    go true e h more = absurd (none-some x (sym h))
    go false e h more = rw e (more h)

pub one_found : {A : Type 0} (P : A → Type 0) (test : A → Bool) (xs : List A) (one : A) → AllByRecursion P xs → find test xs ≡ Some one → P one × (test one ≡ true)
one_found P test [] one all h = absurd (none-some one h)
one_found P test (x ∷ xs) one all h = go (test x) refl h (one_found P test xs one all.1)
  where
    go : (t : Bool) → test x ≡ t → (if t then Some x else find test xs) ≡ Some one → (find test xs ≡ Some one → P one × (test one ≡ true)) → P one × (test one ≡ true)
    go true e h more = let is = same_Some x one h in (subst P is all.0, subst (λ y. test y ≡ true) is e)
    go false e h more = more h

-- ---- names

pub same_is : (a b : List ℕ) → same_name a b ≡ true → a ≡ b
same_is [] [] h = refl
same_is [] (y ∷ b) h = absurd (true≢false (sym h))
same_is (x ∷ a) [] h = absurd (true≢false (sym h))
same_is (x ∷ a) (y ∷ b) h =
    let parts = both_true (nat_eq x y) (same_name a b) h in
    (λ i. eqb-true x y parts.0 i ∷ same_is a b parts.1 i)

pub same_as : (a : List ℕ) → same_name a a ≡ true
same_as [] = refl
same_as (x ∷ a) = and_too (nat_eq x x) (same_name a a) (eq-eqb x x refl) (same_as a)

module _ {A : Type 0} (name_of : A → List ℕ) where
  among_at : (rest : List A) (i : ℕ) (one : A) (name : List ℕ) → slice_get rest i ≡ Some one → name ≡ name_of one → is_name_among name (map name_of rest) ≡ true
  among_at [] i one name here is = absurd (none-some one here)
  among_at (first ∷ rest) zero one name here is =
      let same : same_name name (name_of first) ≡ true = subst (λ (other : List ℕ). same_name name other ≡ true) (is ∙ sym (ap name_of (same_Some first one here))) (same_as name) in
      rw same refl
  among_at (first ∷ rest) (suc i) one name here is =
      let more = among_at rest i one name here is in
      go (same_name name (name_of first)) more
    where
      go : (t : Bool) → is_name_among name (map name_of rest) ≡ true → (t || is_name_among name (map name_of rest)) ≡ true
      go true more = refl
      go false more = more

  -- of different names, what has the same name is the same
  pub same_one : (xs : List A) (i j : ℕ) (one other : A) → are_distinct (map name_of xs) ≡ true → slice_get xs i ≡ Some one → slice_get xs j ≡ Some other →
      name_of one ≡ name_of other → one ≡ other
  same_one [] i j one other distinct here there same = absurd (none-some one here)
  same_one (first ∷ rest) zero zero one other distinct here there same = same_Some one other (sym here ∙ there)
  same_one (first ∷ rest) zero (suc j) one other distinct here there same =
      let apart = not_true (is_name_among (name_of first) (map name_of rest)) (both_true (not (is_name_among (name_of first) (map name_of rest))) (are_distinct (map name_of rest)) distinct).0 in
      absurd (true≢false (sym (among_at rest j other (name_of first) there (ap name_of (same_Some first one here) ∙ same)) ∙ apart))
  same_one (first ∷ rest) (suc i) zero one other distinct here there same =
      let apart = not_true (is_name_among (name_of first) (map name_of rest)) (both_true (not (is_name_among (name_of first) (map name_of rest))) (are_distinct (map name_of rest)) distinct).0 in
      absurd (true≢false (sym (among_at rest i one (name_of first) here (ap name_of (same_Some first other there) ∙ sym same)) ∙ apart))
  same_one (first ∷ rest) (suc i) (suc j) one other distinct here there same =
      same_one rest i j one other (both_true (not (is_name_among (name_of first) (map name_of rest))) (are_distinct (map name_of rest)) distinct).1 here there same
