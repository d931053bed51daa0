-- Intervals that are put together by the order of their starts.
use Rattle.std.specs.Prelude.{◌≡◌, ℕ, ◌≤◌, Bool, true, false, ◌||◌, List, [], ◌∷◌, nat_le}
use Rattle.windows.specs.Times.{Interval, covers, contains, InOrder}

-- where the last one begins
abbrev pub last_start : List Interval → ℕ
last_start [] = 0
last_start (interval ∷ []) = interval.0
last_start (interval ∷ next ∷ rest) = last_start (next ∷ rest)

-- the new ones have the times of the old ones and those of one interval more, and they are in order where the old
-- ones are
pub record Joins (old : List Interval) (from to : ℕ) (new : List Interval) : Type 0 where
  pub times : (t : ℕ) → contains new t ≡ (contains old t || covers (from, to) t)
  pub in_order : (reach : ℕ) → InOrder reach 0 old → to ≤ reach → InOrder reach 0 new
  pub start : last_start new ≤ from

-- whether there is an interval on the left, and it begins no later than the first one on the right, if any
abbrev pub stands_first : List Interval → List Interval → Bool
stands_first [] right = false
stands_first (first ∷ rest) [] = true
stands_first (first ∷ rest) (other ∷ others) = nat_le first.0 other.0
