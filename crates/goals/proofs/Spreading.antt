-- Times so much after one another, gathered one by one as far as they are within a bound.
use Rattle.std.proofs.Common.{◌≡◌, ℕ, suc, ◌+◌, ◌-◌, ◌*◌, ◌<◌, ◌≤◌, ℤ, pos, ◌+ℤ◌, Bool, true, false, cond, List, [], ◌∷◌, ◌++◌, refl, sym, ap, ◌∙◌, arith, append_assoc, append-nil}
use Rattle.std.proofs.lemmas.Int.{ints, fits_signed_from_abs, to_z-of_z}
use mir.Syntax.{w64, w128}
use mir.Val.{of_z, to_z}
use Rattle.std.specs.List.{filter}
use Rattle.std.specs.Int.RustNames.{unsigned_abs}
use Rattle.goals.specs.declared.candidate_times.Bound.{Bound}
use Rattle.goals.specs.Candidates.{spread, most_tried}
use Rattle.goals.specs.Tries.{admits, spread_times}

a_hundred : most_tried ≡ 100
unfolding most_tried
a_hundred = refl

-- the first of those that are left
one_more : (k : ℕ) (time step : ℤ) → k < 100 → spread (most_tried - k) time step ≡ time ∷ spread (most_tried - (k + 1)) (time +ℤ step) step
one_more k time step below = ap (λ (n : ℕ). spread n time step) left
  where
    left : most_tried - k ≡ suc (most_tried - (k + 1))
    left = let is = a_hundred in omega (arith, below, is)

kept : (p : ℤ → Bool) (time : ℤ) (rest : List ℤ) → p time ≡ true → filter p (time ∷ rest) ≡ time ∷ filter p rest
kept p time rest is = ap (λ (b : Bool). cond b (time ∷ filter p rest) (filter p rest)) is

passed_over : (p : ℤ → Bool) (time : ℤ) (rest : List ℤ) → p time ≡ false → filter p (time ∷ rest) ≡ filter p rest
passed_over p time rest is = ap (λ (b : Bool). cond b (time ∷ filter p rest) (filter p rest)) is

-- the times so far and those that are left are all of them
abbrev pub AreSoFar : Bound → ℤ → ℕ → ℤ → List ℤ → List ℤ → Type 0
AreSoFar bound step k time times whole = times ++ filter (admits bound) (spread (most_tried - k) time step) ≡ whole

pub at_first : (bound : Bound) (first time step : ℤ) (times : List ℤ) → time ≡ first → times ≡ [] → AreSoFar bound step 0 time times (spread_times bound first step)
at_first bound first time step times is none =
    ap (λ (list : List ℤ). list ++ filter (admits bound) (spread (most_tried - 0) time step)) none
    ∙ ap (λ (n : ℕ). filter (admits bound) (spread n time step)) none_less
    ∙ ap (λ (z : ℤ). spread_times bound z step) is
  where
    none_less : most_tried - 0 ≡ most_tried
    none_less = omega arith

pub within_bound : (bound : Bound) (step : ℤ) (k : ℕ) (time next : ℤ) (times more whole : List ℤ) → k < 100 → admits bound time ≡ true → next ≡ time +ℤ step → more ≡ times ++ time ∷ [] →
    AreSoFar bound step k time times whole → AreSoFar bound step (k + 1) next more whole
within_bound bound step k time next times more whole below is next_is more_is before =
    ap (λ (list : List ℤ). list ++ filter (admits bound) (spread (most_tried - (k + 1)) next step)) more_is
    ∙ ap (λ (z : ℤ). (times ++ time ∷ []) ++ filter (admits bound) (spread (most_tried - (k + 1)) z step)) next_is
    ∙ append_assoc times (time ∷ []) (filter (admits bound) (spread (most_tried - (k + 1)) (time +ℤ step) step))
    ∙ ap (λ (rest : List ℤ). times ++ rest)
    (sym (ap (filter (admits bound)) (one_more k time step below) ∙ kept (admits bound) time (spread (most_tried - (k + 1)) (time +ℤ step) step) is))
    ∙ before

pub past_bound : (bound : Bound) (step : ℤ) (k : ℕ) (time next : ℤ) (times more whole : List ℤ) → k < 100 → admits bound time ≡ false → next ≡ time +ℤ step → more ≡ times →
    AreSoFar bound step k time times whole → AreSoFar bound step (k + 1) next more whole
past_bound bound step k time next times more whole below is next_is more_is before =
    ap (λ (list : List ℤ). list ++ filter (admits bound) (spread (most_tried - (k + 1)) next step)) more_is
    ∙ ap (λ (z : ℤ). times ++ filter (admits bound) (spread (most_tried - (k + 1)) z step)) next_is
    ∙ ap (λ (rest : List ℤ). times ++ rest)
    (sym (ap (filter (admits bound)) (one_more k time step below) ∙ passed_over (admits bound) time (spread (most_tried - (k + 1)) (time +ℤ step) step) is))
    ∙ before

pub at_last : (bound : Bound) (step : ℤ) (k : ℕ) (time : ℤ) (times whole : List ℤ) → 100 ≤ k → AreSoFar bound step k time times whole → times ≡ whole
at_last bound step k time times whole past before =
    sym (append-nil times) ∙ ap (λ (n : ℕ). times ++ filter (admits bound) (spread n time step)) (sym none_left) ∙ before
  where
    none_left : most_tried - k ≡ 0
    none_left = let is = a_hundred in omega (arith, past, is)

-- no time comes too far from 0
pub not_far : (k : ℕ) (time next step : ℤ) → unsigned_abs time ≤ 100_000_000_000_000_000_000 * (k + 1) → unsigned_abs step ≤ 100_000_000_000_000_000_000 → next ≡ time +ℤ step →
    unsigned_abs next ≤ 100_000_000_000_000_000_000 * ((k + 1) + 1)
not_far k time next step one other is = let sum = ap unsigned_abs is in omega (arith, ints, one, other, sum)

-- ---- as numbers of 128 bits

pub plain : (z : ℤ) → unsigned_abs z ≤ 20_000_000_000_000_000_000_000 → to_z w128 (of_z w128 z) ≡ z
plain z small = to_z-of_z w128 z (fits_signed_from_abs w128 z (omega (arith, small)))

pub next_is : (k : ℕ) (time step : ℤ) → k < 100 → unsigned_abs time ≤ 100_000_000_000_000_000_000 * (k + 1) → unsigned_abs step ≤ 100_000_000_000_000_000_000 →
    to_z w128 (of_z w128 (time +ℤ to_z w128 (of_z w128 step))) ≡ time +ℤ step
next_is k time step below one other = ap (λ (z : ℤ). to_z w128 (of_z w128 (time +ℤ z))) (plain step (omega (arith, other))) ∙ plain (time +ℤ step) (omega (arith, ints, below, one, other))

pub bits_kept : (k n : ℕ) → k < 100 → unsigned_abs (to_z w128 n) ≤ 100_000_000_000_000_000_000 * (k + 1) → to_z w128 (of_z w128 (to_z w128 n)) ≡ to_z w128 n
bits_kept k n below one = plain (to_z w128 n) (omega (arith, below, one))

-- a time as a number of 64 bits
pub micros_kept : (time : ℕ) (got : ℤ) → got ≡ pos time → time ≤ 1_000_000_000_000_000 → unsigned_abs (to_z w64 (of_z w64 got)) ≡ time
micros_kept time got is small =
    ap (λ (z : ℤ). unsigned_abs (to_z w64 (of_z w64 z))) is ∙ ap unsigned_abs (to_z-of_z w64 (pos time) (fits_signed_from_abs w64 (pos time) (omega (arith, small))))
