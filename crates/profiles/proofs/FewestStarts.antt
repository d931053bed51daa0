-- How many segments are needed: each time at which something begins has one that starts there.
use Rattle.std.proofs.Common.{◌≡◌, ℕ, zero, suc, ◌+◌, ◌<◌, ◌≤◌, Bool, true, false, cond, ◌||◌, List, [], ◌∷◌, ◌++◌, length, map, nat_le, nat_lt, nat_eq, Some, refl, sym, ap, ◌∙◌, arith}
use Rattle.std.specs.List.{list_any}
use Rattle.std.proofs.lemmas.Bool.{le-leb, lt-leb, leb-true, leb-false, ltb-true, eqb-true, eqb-false, eq-eqb, false≢true}
use Rattle.windows.specs.Begun.{last_begun, HaveBegun}
use Rattle.profiles.specs.Segments.{times_where}
use Rattle.profiles.proofs.StartTimes.{one_time_more}

abbrev pub is_start : ℕ → List ℕ → Bool
is_start t starts = list_any (nat_eq t) starts

-- ---- how many

abbrev count_below : ℕ → List ℕ → ℕ
count_below n [] = 0
count_below n (t ∷ rest) = cond (nat_lt t n) 1 0 + count_below n rest

one_grows : (t n : ℕ) → cond (nat_lt t n) 1 0 ≤ cond (nat_lt t (suc n)) 1 0
one_grows t n = by (nat_lt t n) refl
  where
    by : (b : Bool) → nat_lt t n ≡ b → cond b 1 0 ≤ cond (nat_lt t (suc n)) 1 0
    by true e =
        let below : t < n = ltb-true t n e in
        let more : nat_lt t (suc n) ≡ true = grind arith in
        rw more (omega arith)
    by false e = omega arith

grows : (n : ℕ) (l : List ℕ) → count_below n l ≤ count_below (suc n) l
grows n [] = omega arith
grows n (t ∷ rest) = let head = one_grows t n in let tail = grows n rest in omega (arith, head, tail)

at_most_all : (n : ℕ) (l : List ℕ) → count_below n l ≤ length l
at_most_all n [] = omega arith
at_most_all n (t ∷ rest) = by (nat_lt t n) (at_most_all n rest)
  where
    by : (b : Bool) → count_below n rest ≤ length rest → cond b 1 0 + count_below n rest ≤ suc (length rest)
    by true before = omega arith
    by false before = omega arith

one_here : (n : ℕ) → (suc (cond (nat_lt n n) 1 0) ≤ cond (nat_lt n (suc n)) 1 0)
one_here n =
    let not : nat_lt n n ≡ false = grind arith in
    let now : nat_lt n (suc n) ≡ true = grind arith in
    rw (not, now) (omega arith)

counted : (n : ℕ) (l : List ℕ) → is_start n l ≡ true → suc (count_below n l) ≤ count_below (suc n) l
counted n [] is = absurd (false≢true is)
counted n (t ∷ rest) is = by (nat_eq n t) refl is (λ found. counted n rest found)
  where
    by : (b : Bool) → nat_eq n t ≡ b → (b || is_start n rest) ≡ true → (is_start n rest ≡ true → suc (count_below n rest) ≤ count_below (suc n) rest) → suc (cond (nat_lt t n) 1 0 + count_below n rest) ≤ cond (nat_lt t (suc n)) 1 0 + count_below (suc n) rest
    by true e found others =
        let same : n ≡ t = eqb-true n t e in
        let here : suc (cond (nat_lt t n) 1 0) ≤ cond (nat_lt t (suc n)) 1 0 = rw (sym same) (one_here n) in
        let tail = grows n rest in
        omega (arith, here, tail)
    by false e found others =
        let head = one_grows t n in
        let tail = others found in
        omega (arith, head, tail)

longer_by_one : (l : List ℕ) (n : ℕ) → length (l ++ n ∷ []) ≡ suc (length l)
longer_by_one [] n = refl
longer_by_one (t ∷ rest) n = ap suc (longer_by_one rest n)

as_many : (test : ℕ → Bool) (others : List ℕ) (n : ℕ) → ((t : ℕ) → t < n → test t ≡ true → is_start t others ≡ true) →
    length (times_where test n) ≤ count_below n others
as_many test others zero each = omega arith
as_many test others (suc n) each =
    let before : length (times_where test n) ≤ count_below n others = as_many test others n (λ t below. each t (omega arith)) in
    one_time_more (λ k l. length l ≤ count_below k others) test n
    (λ e.
    let one = counted n others (each n (omega arith) e) in
    let more = longer_by_one (times_where test n) n in
    omega (arith, before, one, more))
    (λ e. let more = grows n others in omega (arith, before, more))

-- where each time that passes is a start, there are no fewer starts than such times
pub no_fewer : (test : ℕ → Bool) (others : List ℕ) (n : ℕ) → ((t : ℕ) → t < n → test t ≡ true → is_start t others ≡ true) →
    length (times_where test n) ≤ length others
no_fewer test others n each = let count = as_many test others n each in let most = at_most_all n others in omega (arith, count, most)

-- ---- where no segment starts

module _ {A : Type 0} (from : A → ℕ) where
  no_step : (b t : ℕ) → nat_eq (suc t) b ≡ false → nat_le b (suc t) ≡ nat_le b t
  no_step b t e = by (nat_le b t) refl
    where
      apart : suc t ≡ b → ⊥
      apart = eqb-false (suc t) b e

      by : (c : Bool) → nat_le b t ≡ c → nat_le b (suc t) ≡ c
      by true here = let begun : b ≤ t = leb-true b t here in le-leb b (suc t) (omega (arith, begun))
      by false here = let past : t < b = leb-false b t here in lt-leb b (suc t) (omega (arith, past, apart))

  or_false : (a b : Bool) → (a || b) ≡ false → (a ≡ false) × (b ≡ false)
  or_false a b h = (grind arith, grind arith)

  -- the last that has begun is still the same a microsecond later
  pub still_last : (items : List A) (t : ℕ) → is_start (suc t) (map from items) ≡ false → last_begun from items (suc t) ≡ last_begun from items t
  still_last [] t none = refl
  still_last (a ∷ []) t none = refl
  still_last (a ∷ b ∷ rest) t none =
      let parts = or_false (nat_eq (suc t) (from a)) (is_start (suc t) (map from (b ∷ rest))) none in
      let next = or_false (nat_eq (suc t) (from b)) (is_start (suc t) (map from rest)) parts.1 in
      ap (λ c. cond c (last_begun from (b ∷ rest) (suc t)) (Some a)) (no_step (from b) t next.0)
      ∙ ap (λ o. cond (nat_le (from b) t) o (Some a)) (still_last (b ∷ rest) t parts.1)

-- what has begun at 0 starts at 0
pub starts_at_zero : (starts : List ℕ) → HaveBegun 0 starts → is_start 0 starts ≡ true
starts_at_zero [] begun = absurd begun
starts_at_zero (a ∷ rest) begun = let same : 0 ≡ a = omega (arith, begun.0) in ap (λ b. b || is_start 0 rest) (eq-eqb 0 a same)
