-- A token opens a level past the limit exactly where the levels stand higher than the limit.
use Rattle.std.proofs.Common.{◌≡◌, ℕ, zero, suc, ◌+◌, ◌≤◌, Bool, true, false, nat_lt, Option, Some, None, List, [], ◌∷◌, ◌++◌, length, refl, sym, ◌∙◌, arith}
use Rattle.std.proofs.lemmas.Bool.{ltb-false, le-ltb}
use Rattle.readers.specs.grammar.Levels.{Nested, flat, beside, inside, between, height, levels, first_or, first_past, one_too_many}

module _ {Place : Type 0} where
  -- the first of two lists decides, where it has a token past the limit
  abbrev pub or_else : Option Place → Option Place → Option Place
  or_else None b = b
  or_else (Some at) b = Some at

  pub first_past_append : (limit : ℕ) (xs ys : List (Place × ℕ)) → first_past limit (xs ++ ys) ≡ or_else (first_past limit xs) (first_past limit ys)
  first_past_append limit [] ys = refl
  first_past_append limit (x ∷ xs) ys = by_test (nat_lt limit x.1) (first_past_append limit xs ys)
    where
      by_test : (v : Bool) → first_past limit (xs ++ ys) ≡ or_else (first_past limit xs) (first_past limit ys) → first_or v x.0 (first_past limit (xs ++ ys)) ≡ or_else (first_or v x.0 (first_past limit xs)) (first_past limit ys)
      by_test true h = refl
      by_test false h = h

  none_of_two : (a b : Option Place) → or_else a b ≡ None → (a ≡ None) × (b ≡ None)
  none_of_two None b h = (refl, h)
  none_of_two (Some at) b h = cc

  none_first : (v : Bool) (at : Place) (b : Option Place) → first_or v at b ≡ None → (v ≡ false) × (b ≡ None)
  none_first true at b h = cc
  none_first false at b h = (refl, h)

  -- where the levels stand no higher than the limit, no token opens a level past it
  pub within_limit : (limit around : ℕ) (a : Nested Place) → around + height a ≤ limit → first_past limit (levels around a) ≡ None
  within_limit limit around flat h = refl
  within_limit limit around (beside a b) h =
      let i = within_limit limit around a (omega (arith, h)) in
      let j = within_limit limit around b (omega (arith, h)) in
      first_past_append limit (levels around a) (levels around b) ∙ (rw (i, j) refl)
  within_limit limit around (inside at a) h =
      let t : nat_lt limit (around + 1) ≡ false = le-ltb limit (around + 1) (omega (arith, h)) in
      let i = within_limit limit (around + 1) a (omega (arith, h)) in
      rw (t, i) refl
  within_limit limit around (between at a b) h =
      let t : nat_lt limit (around + height a + 1) ≡ false = le-ltb limit (around + height a + 1) (omega (arith, h)) in
      let i = within_limit limit around a (omega (arith, h)) in
      let j = within_limit limit (around + 1) b (omega (arith, h)) in
      first_past_append limit (levels around a) ((at, around + height a + 1) ∷ levels (around + 1) b) ∙ (rw (i, t, j) refl)

  -- where no token opens a level past the limit, the levels stand no higher than it
  pub kept_limit : (limit around : ℕ) (a : Nested Place) → around ≤ limit → first_past limit (levels around a) ≡ None → around + height a ≤ limit
  kept_limit limit around flat l h = omega (arith, l)
  kept_limit limit around (beside a b) l h =
      let n = none_of_two (first_past limit (levels around a)) (first_past limit (levels around b)) (sym (first_past_append limit (levels around a) (levels around b)) ∙ h) in
      let i = kept_limit limit around a l n.0 in
      let j = kept_limit limit around b l n.1 in
      omega (arith, i, j)
  kept_limit limit around (inside at a) l h =
      let n = none_first (nat_lt limit (around + 1)) at (first_past limit (levels (around + 1) a)) h in
      let t : around + 1 ≤ limit = ltb-false limit (around + 1) n.0 in
      let i = kept_limit limit (around + 1) a t n.1 in
      omega (arith, i)
  kept_limit limit around (between at a b) l h =
      let n = none_of_two (first_past limit (levels around a)) (first_past limit ((at, around + height a + 1) ∷ levels (around + 1) b)) (sym (first_past_append limit (levels around a) ((at, around + height a + 1) ∷ levels (around + 1) b)) ∙ h) in
      let m = none_first (nat_lt limit (around + height a + 1)) at (first_past limit (levels (around + 1) b)) n.1 in
      let t : around + height a + 1 ≤ limit = ltb-false limit (around + height a + 1) m.0 in
      let j = kept_limit limit (around + 1) b (omega (arith, t)) m.1 in
      omega (arith, t, j)

  -- ---- counts

  pub within_count : (limit : ℕ) (parts : List Place) → length parts ≤ limit → one_too_many limit parts ≡ None
  within_count limit [] h = refl
  within_count zero (at ∷ parts) h = absurd (omega (arith, h))
  within_count (suc limit) (at ∷ parts) h = within_count limit parts (omega (arith, h))

  pub kept_count : (limit : ℕ) (parts : List Place) → one_too_many limit parts ≡ None → length parts ≤ limit
  kept_count limit [] h = omega arith
  kept_count zero (at ∷ parts) h = cc
  kept_count (suc limit) (at ∷ parts) h = let i = kept_count limit parts h in omega (arith, i)
