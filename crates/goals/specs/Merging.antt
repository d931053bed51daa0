-- The first anchor without a start beside it, by one merge of starts and anchors that both rise.
use Rattle.std.specs.Prelude.{◌≡◌, ℕ, ◌≤◌, ℤ, pos, ◌+ℤ◌, Bool, false, List, [], ◌∷◌, Option, Some, None, int_le, int_lt, refl, if◌then◌else◌}

-- none of them is before the time
abbrev pub AreBehind : ℕ → List ℕ → Type 0
AreBehind time [] = Unit {0}
AreBehind time (next ∷ rest) = (time ≤ next) × AreBehind time rest

-- each is no earlier than those before it
abbrev pub Rises : List ℕ → Type 0
Rises [] = Unit {0}
Rises (time ∷ rest) = AreBehind time rest × Rises rest

-- without the first ones that are before a time
abbrev pub from_time : ℤ → List ℕ → List ℕ
from_time earliest [] = []
from_time earliest (start ∷ rest) = if int_lt (pos start) earliest then from_time earliest rest else start ∷ rest

-- whether the first of them is no later than a time
abbrev pub begins_by : ℤ → List ℕ → Bool
begins_by latest [] = false
begins_by latest (start ∷ rest) = int_le (pos start) latest

abbrev pub merged_gap : ℤ → ℤ → List ℕ → List ℕ → Option ℕ
merged_gap from to starts [] = None
merged_gap from to starts (anchor ∷ rest) =
    let left = from_time (pos anchor +ℤ from) starts in
    if begins_by (pos anchor +ℤ to) left then merged_gap from to left rest else Some anchor

-- ---- worked cases

pub passed_over : merged_gap (pos 2) (pos 4) (5 ∷ 8 ∷ 14 ∷ []) (5 ∷ 9 ∷ 10 ∷ []) ≡ Some 9
passed_over = refl

pub one_start_for_two : merged_gap (pos 0) (pos 4) (9 ∷ []) (7 ∷ 8 ∷ []) ≡ None
one_start_for_two = refl
