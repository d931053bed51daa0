-- The first interval that has not ended is the only one that can have the time.
use Rattle.std.proofs.Common.{◌≡◌, ℕ, zero, suc, ◌+◌, ◌<◌, ◌≤◌, true, false, List, [], ◌∷◌, length, get_or, refl, sym, ap, ◌∙◌, arith, nat_le}
use Rattle.std.proofs.lemmas.Grind.{common_steps}
use Rattle.std.specs.List.Sorted.{IsPartitionedBy, IsPartitionPoint}
use Rattle.windows.specs.Times.{Interval, contains, InOrder}
use Rattle.windows.specs.OrderLaws.{none_before}

-- an interval that begins no earlier than `from` ends after it
ends_after : (reach from : ℕ) (intervals : List Interval) (j : ℕ) (d : Interval) → InOrder reach from intervals → j < length intervals → from < (get_or intervals j d).1
ends_after reach from [] j d order within = absurd (omega arith)
ends_after reach from (first ∷ rest) zero d order within = omega (arith, order.0, order.1)
ends_after reach from (first ∷ rest) (suc j) d order within =
    let after : first.1 + 1 < (get_or rest j d).1 = ends_after reach (first.1 + 1) rest j d order.3 (omega arith) in
    omega (arith, order.0, order.1)

-- an interval before one that has ended has ended
pub parted : (reach from : ℕ) (intervals : List Interval) (t : ℕ) → InOrder reach from intervals → IsPartitionedBy (λ interval. nat_le interval.1 t) intervals
parted reach from [] t order i j d before within ended = absurd (omega arith)
parted reach from (first ∷ rest) t order zero zero d before within ended = ended
parted reach from (first ∷ rest) t order zero (suc j) d before within ended =
    let after : first.1 + 1 < (get_or rest j d).1 = ends_after reach (first.1 + 1) rest j d order.3 (omega arith) in
    grind (arith, common_steps)
parted reach from (first ∷ rest) t order (suc i) zero d before within ended = absurd (omega arith)
parted reach from (first ∷ rest) t order (suc i) (suc j) d before within ended = parted reach (first.1 + 1) rest t order.3 i j d (omega arith) (omega arith) ended

abbrev Ended : ℕ → List Interval → ℕ → Type 0
Ended t intervals i = (k : ℕ) (d : Interval) → k < i → nat_le (get_or intervals k d).1 t ≡ true

passed : (first : Interval) (rest : List Interval) (t : ℕ) → nat_le first.1 t ≡ true → contains (first ∷ rest) t ≡ contains rest t
passed first rest t ended = grind (arith, common_steps)

found_at : (reach from : ℕ) (intervals : List Interval) (i t : ℕ) (d : Interval) → InOrder reach from intervals → i < length intervals →
    Ended t intervals i → nat_le (get_or intervals i d).1 t ≡ false → nat_le (get_or intervals i d).0 t ≡ contains intervals t
found_at reach from [] i t d order within before here = absurd (omega arith)
found_at reach from (first ∷ rest) zero t d order within before here =
    let below : t < first.1 = grind arith in
    let after : contains rest t ≡ false = none_before reach (first.1 + 1) rest t order.3 (omega arith) in
    grind (arith, common_steps)
found_at reach from (first ∷ rest) (suc i) t d order within before here =
    found_at reach (first.1 + 1) rest i t d order.3 (omega arith) (λ k e below. before (suc k) e (omega arith)) here
    ∙ sym (passed first rest t (before zero first (omega arith)))

found_none : (intervals : List Interval) (t : ℕ) → Ended t intervals (length intervals) → false ≡ contains intervals t
found_none [] t before = refl
found_none (first ∷ rest) t before =
    found_none rest t (λ k e below. before (suc k) e (omega arith)) ∙ sym (passed first rest t (before zero first (omega arith)))

pub found : (reach : ℕ) (intervals : List Interval) (i t : ℕ) (interval : Interval) → InOrder reach 0 intervals →
    IsPartitionPoint (λ interval. nat_le interval.1 t ≡ true) (λ interval. nat_le interval.1 t ≡ false) intervals i →
    i < length intervals → interval ≡ get_or intervals i interval → nat_le interval.0 t ≡ contains intervals t
found reach intervals i t interval order point within is =
    ap (λ (x : Interval). nat_le x.0 t) is
    ∙ found_at reach 0 intervals i t interval order within (λ k d below. point.0 k d (omega arith) below) (point.1 i interval (omega arith) within)

pub found_past : (intervals : List Interval) (i t : ℕ) →
    IsPartitionPoint (λ interval. nat_le interval.1 t ≡ true) (λ interval. nat_le interval.1 t ≡ false) intervals i →
    length intervals ≤ i → false ≡ contains intervals t
found_past intervals i t point past = found_none intervals t (λ k d below. point.0 k d (omega arith) (omega arith))
