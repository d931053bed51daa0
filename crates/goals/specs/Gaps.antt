-- The first gap of each kind of goal, by when the matching spans start.
use Rattle.std.specs.Prelude.{◌≡◌, ℕ, ◌+◌, ℤ, pos, negsuc, ◌+ℤ◌, Bool, ◌&&◌, List, [], ◌∷◌, ◌++◌, Option, Some, None, length, nat_le, nat_lt, int_le, refl, if◌then◌else◌}
use Rattle.std.specs.List.{filter, list_any}
use Rattle.aerie_base.specs.TimeOrder.{earlier}

-- from one time on, and before another
abbrev pub lies_in_range : ℕ → ℕ → ℕ → Bool
lies_in_range from to start = nat_le from start && nat_lt start to

abbrev pub starts_within : ℕ → ℕ → List ℕ → List ℕ
starts_within from to starts = filter (lies_in_range from to) starts

-- ---- recurrence

-- the first of some points, one of them before the others, that is followed more than so much later
abbrev pub first_far : ℕ → ℕ → List ℕ → Option ℕ
first_far every point [] = None
first_far every point (next ∷ rest) = if nat_lt (point + every) next then Some point else first_far every next rest

-- the points are the range's first time, the starts within it and its end
abbrev pub recurrence_gap : ℕ → ℕ → ℕ → List ℕ → Option ℕ
recurrence_gap every from to starts = first_far every from (starts_within from to starts ++ to ∷ [])

-- ---- coexistence

-- whether a start is so long after the anchor
abbrev pub is_beside : ℤ → ℤ → ℕ → ℕ → Bool
is_beside from to anchor start = int_le (pos anchor +ℤ from) (pos start) && int_le (pos start) (pos anchor +ℤ to)

abbrev pub has_start : ℤ → ℤ → List ℕ → ℕ → Bool
has_start from to starts anchor = list_any (is_beside from to anchor) starts

abbrev pub without_start : ℤ → ℤ → List ℕ → ℕ → Option ℕ
without_start from to starts anchor = if has_start from to starts anchor then None else Some anchor

-- the least anchor that has no start beside it
abbrev pub coexistence_gap : ℤ → ℤ → List ℕ → List ℕ → Option ℕ
coexistence_gap from to starts [] = None
coexistence_gap from to starts (anchor ∷ rest) = earlier (without_start from to starts anchor) (coexistence_gap from to starts rest)

-- ---- cardinality

abbrev pub count_within : ℕ → ℕ → List ℕ → ℕ
count_within from to starts = length (starts_within from to starts)

-- this many, where that is too few
abbrev pub if_too_few : ℕ → ℕ → Option ℕ
if_too_few count found = if nat_lt found count then Some found else None

abbrev pub cardinality_gap : ℕ → ℕ → ℕ → List ℕ → Option ℕ
cardinality_gap count from to starts = if_too_few count (count_within from to starts)

-- ---- worked cases

-- hourly from 0 to 4 hours, in minutes: the start at 30 is the first point that is followed more than an hour later
pub hourly : recurrence_gap 60 0 240 (30 ∷ []) ≡ Some 30
hourly = refl

pub hourly_filled_once : recurrence_gap 60 0 240 (30 ∷ 90 ∷ []) ≡ Some 90
hourly_filled_once = refl

pub hourly_filled : recurrence_gap 60 0 240 (30 ∷ 90 ∷ 150 ∷ 210 ∷ []) ≡ None
hourly_filled = refl

-- the range's own start is a point
pub from_the_first_time : recurrence_gap 60 0 240 (90 ∷ 150 ∷ 210 ∷ []) ≡ Some 0
from_the_first_time = refl

-- a start before the range, or at its end, is no point
pub outside_the_range : recurrence_gap 60 10 100 (5 ∷ 100 ∷ []) ≡ Some 10
outside_the_range = refl

-- a start from 2 to 4 after 5
pub no_start_beside : coexistence_gap (pos 2) (pos 4) (5 ∷ 10 ∷ []) (5 ∷ []) ≡ Some 5
no_start_beside = refl

pub a_start_beside : coexistence_gap (pos 2) (pos 4) (5 ∷ 9 ∷ []) (5 ∷ []) ≡ None
a_start_beside = refl

-- the least, wherever it stands
pub the_least_anchor : coexistence_gap (pos 0) (pos 1) (7 ∷ []) (20 ∷ 7 ∷ 15 ∷ 30 ∷ []) ≡ Some 15
the_least_anchor = refl

-- up to 2 before
pub a_start_before : coexistence_gap (negsuc 1) (pos 0) (7 ∷ []) (9 ∷ []) ≡ None
a_start_before = refl

-- a start at the end of the range is not counted
pub three_of_four : cardinality_gap 4 0 100 (0 ∷ 10 ∷ 20 ∷ 100 ∷ []) ≡ Some 3
three_of_four = refl

pub enough : cardinality_gap 3 0 100 (0 ∷ 10 ∷ 20 ∷ 100 ∷ []) ≡ None
enough = refl
