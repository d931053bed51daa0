-- When a window holds for a span, of which the parts that do not speak of the span were evaluated.
use Rattle.std.specs.Prelude.{◌≡◌, ℕ, ◌+◌, ◌-◌, ◌<◌, ◌≤◌, ℤ, max, min, Bool, true, not, ◌&&◌, ◌||◌, Option, Some, nat_eq}
use Rattle.std.specs.Int.RustNames.{unsigned_abs}
use Rattle.windows.specs.Times.{Interval, TimeSet, contains, shifted_contains, long_contains}
use Rattle.windows.specs.Intervals.{intervals_of}
use Rattle.constraints.specs.declared.span_windows.SpanWindow.{SpanWindow, fold-SpanWindow}
use Rattle.constraints.specs.declared.span_windows.SpanWindow.TheOpen.{SpanWindow-F}
use Rattle.constraints.specs.Holding.{bound_covers}

abbrev pub holds_for_step : ℕ → Option Interval → SpanWindow-F (ℕ → Bool) → ℕ → Bool
holds_for_step reach bound (SpanWindow-F.Times set) t = contains set.intervals t
holds_for_step reach bound SpanWindow-F.Lasting t = bound_covers bound t
holds_for_step reach bound (SpanWindow-F.And left right) t = left t && right t
holds_for_step reach bound (SpanWindow-F.Or left right) t = left t || right t
holds_for_step reach bound (SpanWindow-F.Not part) t = not (part t)
holds_for_step reach bound (SpanWindow-F.Shift part start end) t = shifted_contains start end (intervals_of reach part) t
holds_for_step reach bound (SpanWindow-F.Longer part least) t = long_contains least (intervals_of reach part) t

-- whether it holds at a time below the reach, for a span of these times or for none
abbrev pub holds_for : ℕ → SpanWindow → Option Interval → ℕ → Bool
holds_for reach window bound = fold-SpanWindow (ℕ → Bool) (holds_for_step reach bound) window

-- the sets of its parts are of times below the reach
abbrev pub is_below_step : ℕ → SpanWindow-F Bool → Bool
is_below_step reach (SpanWindow-F.Times set) = nat_eq set.reach reach
is_below_step reach SpanWindow-F.Lasting = true
is_below_step reach (SpanWindow-F.And left right) = left && right
is_below_step reach (SpanWindow-F.Or left right) = left && right
is_below_step reach (SpanWindow-F.Not part) = part
is_below_step reach (SpanWindow-F.Shift part start end) = part
is_below_step reach (SpanWindow-F.Longer part least) = part

abbrev pub is_below : ℕ → SpanWindow → Bool
is_below reach window = fold-SpanWindow Bool (is_below_step reach) window

-- ---- near a time

-- the farther of two offsets
abbrev pub farther : ℤ → ℤ → ℕ
farther start end = max (unsigned_abs start) (unsigned_abs end)

-- it holds at a time alike for two spans, or for none, that cover alike the times which are no farther from it than this
abbrev pub IsMargin : ℕ → SpanWindow → ℕ → Type 0
IsMargin reach window margin =
    (one other : Option Interval) (t : ℕ) → t < reach →
    ((u : ℕ) → u < reach → t ≤ u + margin → u ≤ t + margin → bound_covers one u ≡ bound_covers other u) →
    holds_for reach window one t ≡ holds_for reach window other t

-- from one time up to another a set has the times for which a test is true
abbrev pub HasTimesWithin : ℕ → ℕ → (ℕ → Bool) → TimeSet → Type 0
HasTimesWithin from to test made = (t : ℕ) → from ≤ t → t < to → contains made.intervals t ≡ test t

-- where a part has the times of a test from one time up to another and so far around, it has those of the test's maximal intervals
-- once these are moved
abbrev pub KeepsShiftedWithin : ℤ → ℤ → ℕ → ℕ → TimeSet → TimeSet → Type 0
KeepsShiftedWithin start end from to part made =
    (test : ℕ → Bool) → HasTimesWithin (from - farther start end) (min part.reach (to + farther start end)) test part →
    HasTimesWithin from to (λ t. shifted_contains start end (intervals_of part.reach test) t) made

-- the same of those maximal intervals that last at least so long
abbrev pub KeepsLongWithin : ℕ → ℕ → ℕ → TimeSet → TimeSet → Type 0
KeepsLongWithin least from to part made =
    (test : ℕ → Bool) → HasTimesWithin (from - least) (min part.reach (to + least)) test part →
    HasTimesWithin from to (λ t. long_contains least (intervals_of part.reach test) t) made
