-- The first place at which a test passes, as a recursion, and where it is in lists of different names and of rising ids.
use Rattle.std.proofs.Common.{◌≡◌, ℕ, zero, suc, ◌+◌, ◌&&◌, ◌||◌, Bool, true, false, not, IsTrue, List, [], ◌∷◌, Option, Some, None, cond, option_map, length, map, nat_lt, slice_get, position, refl, sym, ap, ◌∙◌, true≢false, arith, lt-ltb, ltb-true, if◌then◌else◌}
use Rattle.std.specs.Prelude.{option_and_then, find}
use Rattle.std.specs.List.{position_or_len}
use Rattle.std.specs.Cmp.Lexicographic.{bytes_decides}
use Rattle.std.proofs.lemmas.Option.{none-some, same_Some}
use Rattle.aerie_base.specs.models.Names.{same_name, is_name_among, are_distinct}

abbrev pub first_position : {A : Type 0} → (A → Bool) → List A → Option ℕ
first_position test [] = None
first_position test (x ∷ xs) = if test x then Some 0 else option_map suc (first_position test xs)

suc_lt : (n count : ℕ) → nat_lt (suc n) (suc count) ≡ nat_lt n count
suc_lt n count = go (nat_lt n count) refl
  where
    on : (b : Bool) → nat_lt (suc n) (suc count) ≡ b → nat_lt n count ≡ false → b ≡ false
    on true h e =
        let less = ltb-true (suc n) (suc count) h in
        absurd (true≢false (sym (lt-ltb n count (omega (arith, less))) ∙ e))
    on false h e = refl

    go : (t : Bool) → nat_lt n count ≡ t → nat_lt (suc n) (suc count) ≡ t
    go true e = let less = ltb-true n count e in lt-ltb (suc n) (suc count) (omega (arith, less))
    go false e = on (nat_lt (suc n) (suc count)) refl e

onward : (n count : ℕ) → cond (nat_lt (suc n) (suc count)) (Some (suc n)) None ≡ option_map suc (cond (nat_lt n count) (Some n) None)
onward n count = ap (λ (t : Bool). cond t (Some (suc n)) None) (suc_lt n count) ∙ go (nat_lt n count)
  where
    go : (t : Bool) → cond t (Some (suc n)) None ≡ option_map suc (cond t (Some n) None)
    go true = refl
    go false = refl

one_plus : (n : ℕ) → 1 + n ≡ suc n
one_plus n = omega arith

pub position_is : {A : Type 0} (test : A → Bool) (xs : List A) → position test xs ≡ first_position test xs
position_is test [] = refl
position_is test (x ∷ xs) = go (test x) (position_is test xs)
  where
    go : (t : Bool) → position test xs ≡ first_position test xs →
        cond (nat_lt (cond (not t) (1 + position_or_len test xs) 0) (suc (length xs))) (Some (cond (not t) (1 + position_or_len test xs) 0)) None
        ≡ (if t then Some 0 else option_map suc (first_position test xs))
    go true rest = ap (λ (t : Bool). cond t (Some 0) None) (lt-ltb 0 (suc (length xs)) (omega arith))
    go false rest =
        ap (λ (k : ℕ). cond (nat_lt k (suc (length xs))) (Some k) None) (one_plus (position_or_len test xs)) ∙ onward (position_or_len test xs) (length xs) ∙ ap (option_map suc) rest

-- what stands there is the first that passes
pub position_finds : {A : Type 0} (test : A → Bool) (xs : List A) → option_and_then (slice_get xs) (first_position test xs) ≡ find test xs
position_finds test [] = refl
position_finds test (x ∷ xs) = go (test x) (position_finds test xs)
  where
    on : (o : Option ℕ) → option_and_then (slice_get (x ∷ xs)) (option_map suc o) ≡ option_and_then (slice_get xs) o
    on None = refl
    on (Some n) = refl

    go : (t : Bool) → option_and_then (slice_get xs) (first_position test xs) ≡ find test xs →
        option_and_then (slice_get (x ∷ xs)) (if t then Some 0 else option_map suc (first_position test xs)) ≡ cond t (Some x) (find test xs)
    go true rest = refl
    go false rest = on (first_position test xs) ∙ rest

pub both : (a b : Bool) → IsTrue (a && b) → IsTrue a × IsTrue b
both true b h = (refl, h)
both false b h = absurd (true≢false (sym h))

pub neither : (a b : Bool) → (a || b) ≡ false → (a ≡ false) × (b ≡ false)
neither true b h = absurd (true≢false h)
neither false b h = (refl, h)

pub is_not : (a : Bool) → IsTrue (not a) → a ≡ false
is_not true h = absurd (true≢false (sym h))
is_not false h = refl

-- ---- names

pub same_itself : (name : List ℕ) → same_name name name ≡ true
same_itself name = (bytes_decides name name).1 refl

pub same_is : (one other : List ℕ) → same_name one other ≡ true → one ≡ other
same_is one other h = (bytes_decides one other).0 h

pub not_same : (one other : List ℕ) → (one ≡ other → ⊥) → same_name one other ≡ false
not_same one other differ = go (same_name one other) refl
  where
    go : (t : Bool) → same_name one other ≡ t → t ≡ false
    go true h = absurd (differ (same_is one other h))
    go false h = refl

pub same_swapped : (one other : List ℕ) → same_name one other ≡ false → same_name other one ≡ false
same_swapped one other h = not_same other one (λ e. true≢false (sym (same_itself one) ∙ ap (same_name one) (sym e) ∙ h))

module _ {A : Type 0} (name : A → List ℕ) where
  -- the name of one is none of others
  pub not_among : (one : List ℕ) (xs : List A) (at : ℕ) (x : A) → is_name_among one (map name xs) ≡ false → slice_get xs at ≡ Some x → same_name one (name x) ≡ false
  not_among one [] at x none here = absurd (none-some x here)
  not_among one (first ∷ rest) zero x none here =
      ap (λ (y : A). same_name one (name y)) (sym (same_Some first x here)) ∙ (neither (same_name one (name first)) (is_name_among one (map name rest)) none).0
  not_among one (first ∷ rest) (suc at) x none here =
      not_among one rest at x (neither (same_name one (name first)) (is_name_among one (map name rest)) none).1 here

  -- each of different names is found at its position
  pub position_of_name : (xs : List A) (at : ℕ) (x : A) → IsTrue (are_distinct (map name xs)) → slice_get xs at ≡ Some x →
      first_position (λ y. same_name (name y) (name x)) xs ≡ Some at
  position_of_name [] at x distinct here = absurd (none-some x here)
  position_of_name (first ∷ rest) zero x distinct here =
      ap (λ (t : Bool). if t then Some 0 else option_map suc (first_position (λ (y : A). same_name (name y) (name x)) rest))
      (ap (λ (y : A). same_name (name y) (name x)) (same_Some first x here) ∙ same_itself (name x))
  position_of_name (first ∷ rest) (suc at) x distinct here =
      let parts = both (not (is_name_among (name first) (map name rest))) (are_distinct (map name rest)) distinct in
      ap (λ (t : Bool). if t then Some 0 else option_map suc (first_position (λ (y : A). same_name (name y) (name x)) rest))
      (not_among (name first) rest at x (is_not (is_name_among (name first) (map name rest)) parts.0) here)
      ∙ ap (option_map suc) (position_of_name rest at x parts.1 here)
