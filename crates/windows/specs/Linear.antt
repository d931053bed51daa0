-- Profiles that rise and fall in straight lines, and the comparison of their values.
use Rattle.std.specs.Prelude.{◌≡◌, ℕ, ◌-◌, ◌^◌, ◌<◌, ◌≤◌, ℤ, pos, negsuc, ◌+ℤ◌, ◌*ℤ◌, true, false, cond, List, [], ◌∷◌, nat_le, refl}
use Rattle.std.specs.Int.RustNames.{unsigned_abs}
use Rattle.aerie_base.specs.expressions.Arithmetic.{compared}
use Rattle.aerie_base.specs.declared.expressions.Comparison.TheVariants.{Equal, Unequal, Less, AtLeast}
use Rattle.windows.specs.declared.segments.Segment.{Segment}

-- the value of a segment at a time that is not before it
abbrev pub segment_value : Segment → ℕ → ℤ
segment_value segment t = segment.value +ℤ segment.rate *ℤ pos (t - segment.from)

-- the value at a time: that of the last segment which begins no later
abbrev pub segments_value : List Segment → ℕ → ℤ
segments_value [] t = pos 0
segments_value (segment ∷ []) t = segment_value segment t
segments_value (segment ∷ next ∷ rest) t = cond (nat_le next.from t) (segments_value (next ∷ rest) t) (segment_value segment t)

-- so far from 0 at most, and not so far: 2^120
abbrev pub IsSum : ℤ → Type 0
IsSum value = unsigned_abs value < 2 ^ 120

-- where the first of the segments begins, or the reach where there is none
abbrev pub first_start : ℕ → List Segment → ℕ
first_start reach [] = reach
first_start reach (segment ∷ rest) = segment.from

-- each segment begins before the next one and before the reach, and its values up to there are in range
abbrev pub Follow : ℕ → List Segment → Type 0
Follow reach [] = Unit {0}
Follow reach (segment ∷ rest) =
    (segment.from < first_start reach rest)
    × ((t : ℕ) → segment.from ≤ t → t < first_start reach rest → IsSum (segment_value segment t))
    × Follow reach rest

-- segments that give a value at each time of [0, reach)
pub record AreSegments (reach : ℕ) (segments : List Segment) : Type 0 where
  pub begin_at_zero : 0 < reach → first_start reach segments ≡ 0
  pub follow : Follow reach segments

-- ---- worked cases

abbrev rising : List Segment
rising = (record { from = 0; value = pos 0; rate = pos 3 }) ∷ []

abbrev stairs : List Segment
stairs = (record { from = 0; value = pos 0; rate = pos 0 }) ∷ (record { from = 5; value = pos 3; rate = pos 0 }) ∷ (record { from = 15; value = pos 6; rate = pos 0 }) ∷ []

abbrev falling : List Segment
falling = (record { from = 0; value = pos 100; rate = negsuc 1 }) ∷ []

-- 3 with each microsecond: 9 after 3 and 12 after 4, so at least 10 from 4 on
pub risen : segments_value rising 4 ≡ pos 12
risen = refl

pub not_yet : compared AtLeast (segments_value rising 3) (pos 10) ≡ false
not_yet = refl

pub from_then_on : compared AtLeast (segments_value rising 4) (pos 10) ≡ true
from_then_on = refl

-- a segment ends where the next one begins
pub last_of_a_stair : segments_value stairs 14 ≡ pos 3
last_of_a_stair = refl

pub first_of_the_next : segments_value stairs 15 ≡ pos 6
first_of_the_next = refl

pub fallen : segments_value falling 48 ≡ pos 4
fallen = refl

pub below_zero : compared Less (segments_value falling 51) (pos 0) ≡ true
below_zero = refl

pub met_exactly : compared Equal (segments_value falling 50) (pos 0) ≡ true
met_exactly = refl

pub met_not_exactly : compared Unequal (segments_value rising 3) (pos 10) ≡ true
met_not_exactly = refl
