-- The times at which a goal's activity is tried, in the order in which it is.
use Rattle.std.specs.Prelude.{◌≡◌, ℕ, zero, suc, ◌-◌, ◌/◌, ℤ, pos, negsuc, ◌+ℤ◌, ◌-ℤ◌, Bool, false, not, ◌&&◌, List, [], ◌∷◌, ◌++◌, length, max, nat_eq, nat_lt, int_le, int_lt, refl, if◌then◌else◌}
use Rattle.std.specs.List.{filter, list_any}
use Rattle.std.specs.Int.RustNames.{unsigned_abs}

-- so many times, each so much after the one before it
abbrev pub spread : ℕ → ℤ → ℤ → List ℤ
spread zero first step = []
spread (suc count) first step = first ∷ spread count (first +ℤ step) step

-- so many times are tried for one gap, at most
unfoldable pub most_tried : ℕ
most_tried = 100

-- how far apart they are: such a part of a length, and at least 1
abbrev pub try_step : ℕ → ℕ → ℕ
try_step length parts = max 1 (length / parts)

-- ---- by the kind of goal

-- back from the latest time that leaves the gap's point followed in time, as long as they are after the point
abbrev pub recurrence_times : ℕ → ℤ → List ℤ
recurrence_times every gap = filter (λ time. int_lt gap time) (spread most_tried (gap +ℤ pos every) (pos 0 -ℤ pos (try_step every 100)))

-- from the earliest time beside the anchor, up to the latest
abbrev pub coexistence_times : ℤ → ℤ → ℤ → List ℤ
coexistence_times from to gap =
    filter (λ time. int_le time (gap +ℤ to)) (spread most_tried (gap +ℤ from) (pos (try_step (unsigned_abs (to -ℤ from)) 99)))

-- from the range's first time, before its end
abbrev pub cardinality_times : ℕ → ℕ → List ℤ
cardinality_times from to = filter (λ time. int_lt time (pos to)) (spread most_tried (pos from) (pos (try_step (to - from) 100)))

-- ---- which of them are free

-- no matching span starts at the time
abbrev pub IsUntaken : List ℕ → ℕ → Type 0
IsUntaken starts time = list_any (nat_eq time) starts ≡ false

-- a time of the plan at which no matching span starts
abbrev pub is_free : ℕ → List ℕ → ℕ → Bool
is_free duration starts time = nat_lt time duration && not (list_any (nat_eq time) starts)

-- the time, where it is such a one
abbrev pub free_at : ℕ → List ℕ → ℤ → List ℕ
free_at duration starts (pos time) = if is_free duration starts time then time ∷ [] else []
free_at duration starts (negsuc before) = []

abbrev pub free_times : ℕ → List ℕ → List ℤ → List ℕ
free_times duration starts [] = []
free_times duration starts (time ∷ rest) = free_at duration starts time ++ free_times duration starts rest

-- ---- worked cases

-- the first is as late as may be; the step is a hundredth, and at least 1
pub back_to_the_point : recurrence_times 3 (pos 10) ≡ pos 13 ∷ pos 12 ∷ pos 11 ∷ []
unfolding most_tried
back_to_the_point = refl

-- an hour has a hundred steps of 36 seconds, of which none is at the point
pub a_hundred_in_an_hour : length (recurrence_times 3_600 (pos 1_800)) ≡ 100
unfolding most_tried
a_hundred_in_an_hour = refl

-- a step of 1 in a range of 150: a hundred are tried
pub a_hundred_at_most : length (recurrence_times 150 (pos 0)) ≡ 100
unfolding most_tried
a_hundred_at_most = refl

pub up_to_the_latest : coexistence_times (pos 2) (pos 4) (pos 5) ≡ pos 7 ∷ pos 8 ∷ pos 9 ∷ []
unfolding most_tried
up_to_the_latest = refl

pub before_the_anchor : coexistence_times (negsuc 1) (pos 0) (pos 5) ≡ pos 3 ∷ pos 4 ∷ pos 5 ∷ []
unfolding most_tried
before_the_anchor = refl

-- 99 steps lead from the earliest to the latest
pub both_ends : length (coexistence_times (pos 0) (pos 990) (pos 5)) ≡ 100
unfolding most_tried
both_ends = refl

pub without_the_end : cardinality_times 2 5 ≡ pos 2 ∷ pos 3 ∷ pos 4 ∷ []
unfolding most_tried
without_the_end = refl

-- before the plan, after it, and where a matching span starts, nothing is tried
pub free_ones : free_times 10 (4 ∷ []) (negsuc 0 ∷ pos 3 ∷ pos 4 ∷ pos 9 ∷ pos 10 ∷ []) ≡ 3 ∷ 9 ∷ []
free_ones = refl
