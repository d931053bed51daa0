-- Times that rise, one by one and by their places.
use Rattle.std.proofs.Common.{◌≡◌, ℕ, zero, suc, ◌≤◌, ◌<◌, Bool, true, false, ◌||◌, List, [], ◌∷◌, length, get_or, refl, sym, subst, arith, nat_eq, nat_lt, if◌then◌else◌}
use Rattle.std.specs.Prelude.{Result, Ok, Err, MatchResult, is_ok}
use Rattle.std.specs.List.{list_any}
use Rattle.std.specs.List.Sorted.{IsNonDecreasingBy, IsBinarySearchResult}
use Rattle.std.specs.Ordering.{nat_cmp}
use Rattle.std.proofs.lemmas.Grind.{common_steps}
use Rattle.std.proofs.lemmas.List.Folds.{list_any_at}
use Rattle.std.proofs.lemmas.List.Sorted.{searched}
use Rattle.run_data.specs.Spans.{SpanOf}
use Rattle.constraints.specs.Meeting.{StartBehind, ByStart}
use Rattle.goals.specs.declared.types.Template.{Template}
use Rattle.goals.specs.Matching.{matches, matching_starts}
use Rattle.goals.specs.Merging.{AreBehind, Rises}

-- ---- by places

behind_from : (time : ℕ) (times : List ℕ) → ((k : ℕ) → k < length times → time ≤ get_or times k 0) → AreBehind time times
behind_from time [] by = tt
behind_from time (next ∷ rest) by = (by 0 (omega arith), behind_from time rest (λ k below. by (suc k) (omega (arith, below))))

pub rises_from : (times : List ℕ) → IsNonDecreasingBy (λ (time : ℕ). time) times → Rises times
rises_from [] by = tt
rises_from (time ∷ rest) by = (
  behind_from time rest (λ k below. by 0 (suc k) 0 (omega arith) (omega (arith, below))),
  rises_from rest (λ i j d below within. by (suc i) (suc j) d (omega (arith, below)) (omega (arith, within))),
)

behind_at : (time : ℕ) (times : List ℕ) → AreBehind time times → (k : ℕ) → k < length times → time ≤ get_or times k 0
behind_at time [] behind k below = absurd (omega (arith, below))
behind_at time (next ∷ rest) behind zero below = behind.0
behind_at time (next ∷ rest) behind (suc k) below = behind_at time rest behind.1 k (omega (arith, below))

pub rises_at : (times : List ℕ) → Rises times → (i j : ℕ) → i ≤ j → j < length times → get_or times i 0 ≤ get_or times j 0
rises_at [] rises i j below within = absurd (omega (arith, within))
rises_at (time ∷ rest) rises zero zero below within = omega arith
rises_at (time ∷ rest) rises zero (suc j) below within = behind_at time rest rises.0 j (omega (arith, within))
rises_at (time ∷ rest) rises (suc i) zero below within = absurd (omega (arith, below))
rises_at (time ∷ rest) rises (suc i) (suc j) below within = rises_at rest rises.1 i j (omega (arith, below)) (omega (arith, within))

-- ---- a binary search

none_at : (p : ℕ → Bool) (times : List ℕ) → ((k : ℕ) → k < length times → p (get_or times k 0) ≡ false) → list_any p times ≡ false
none_at p [] fails = refl
none_at p (time ∷ rest) fails = step (p time) (list_any p rest) (fails 0 (omega arith)) (none_at p rest (λ k below. fails (suc k) (omega (arith, below))))
  where
    step : (b c : Bool) → b ≡ false → c ≡ false → (b || c) ≡ false
    step true c is other = is
    step false c is other = other

pub found_by_search : (times : List ℕ) (time : ℕ) (found : Result ℕ ℕ) → IsBinarySearchResult (λ y. nat_cmp y time) times found → Rises times → is_ok found ≡ list_any (nat_eq time) times
found_by_search times time found by rises = go found (searched times time found by (rises_at times rises))
  where
    go : (found : Result ℕ ℕ) →
        MatchResult found (λ i. (i < length times) × (get_or times i 0 ≡ time))
        (λ i. (i ≤ length times) × ((k : ℕ) → k < i → get_or times k 0 < time) × ((k : ℕ) → i ≤ k → k < length times → time < get_or times k 0)) →
        is_ok found ≡ list_any (nat_eq time) times
    go (Ok i) is = sym (list_any_at (nat_eq time) times i 0 is.0 (same (get_or times i 0) is.1))
      where
        same : (other : ℕ) → other ≡ time → nat_eq time other ≡ true
        same other equal = grind (arith, common_steps)
    go (Err i) is = sym (none_at (nat_eq time) times (λ k below. apart k below (nat_lt k i) refl))
      where
        apart : (k : ℕ) → k < length times → (b : Bool) → nat_lt k i ≡ b → nat_eq time (get_or times k 0) ≡ false
        apart k below true before = let less = is.1 k (grind (arith, common_steps)) in grind (arith, common_steps, less)
        apart k below false before = let more = is.2 k (grind (arith, common_steps)) below in grind (arith, common_steps, more)

-- ---- matching starts

behind_matching : (template : Template) (time : ℕ) (spans : List SpanOf) → StartBehind time spans → AreBehind time (matching_starts template spans)
behind_matching template time [] behind = tt
behind_matching template time (span ∷ rest) behind = go (behind_matching template time rest behind.1) (matches template span)
  where
    go : AreBehind time (matching_starts template rest) → (b : Bool) → AreBehind time (if b then span.start ∷ matching_starts template rest else matching_starts template rest)
    go later true = (behind.0, later)
    go later false = later

pub matching_rise : (template : Template) (spans : List SpanOf) → ByStart spans → Rises (matching_starts template spans)
matching_rise template [] order = tt
matching_rise template (span ∷ rest) order = go (matching_rise template rest order.1) (matches template span)
  where
    go : Rises (matching_starts template rest) → (b : Bool) → Rises (if b then span.start ∷ matching_starts template rest else matching_starts template rest)
    go later true = (behind_matching template span.start rest order.0, later)
    go later false = later

pub matched_rise : (template : Template) (spans : List SpanOf) (starts : List ℕ) → ByStart spans → starts ≡ matching_starts template spans → Rises starts
matched_rise template spans starts order is = subst Rises (sym is) (matching_rise template spans order)
