-- When comparisons come to answer otherwise: a comparison of two numbers goes by the sign of their difference, which
-- changes at most twice while the difference moves at a constant rate.
use Rattle.std.specs.Prelude.{◌≡◌, ℕ, ◌+◌, ◌-◌, ◌/◌, pos, negsuc, Option, Some, None, int_lt, unsigned_abs, refl, if◌then◌else◌}
use Rattle.wait_solver.specs.declared.lines.Line.{Line}

-- the first microsecond at which a number that is so far from 0, and comes so much nearer each microsecond, has reached
-- or passed it: the quotient rounded up
abbrev pub until_reached : ℕ → ℕ → ℕ
until_reached away nearer = (away - 1) / nearer + 1

-- how many microseconds later a number first has another sign than now, where it ever does: one that is 0 and moves
-- leaves it at once, one that moves toward 0 reaches it
abbrev pub until_change : Line → Option ℕ
until_change line =
    if int_lt (pos 0) line.value
    then (if int_lt line.rate (pos 0) then Some (until_reached (unsigned_abs line.value) (unsigned_abs line.rate)) else None)
    else (if int_lt line.value (pos 0)
    then (if int_lt (pos 0) line.rate then Some (until_reached (unsigned_abs line.value) (unsigned_abs line.rate)) else None)
    else (if int_lt line.rate (pos 0) then Some 1 else (if int_lt (pos 0) line.rate then Some 1 else None)))

-- ---- worked cases

-- -10 and 3 more each microsecond: below 0 for three microseconds, 2 after four
pub rounded_up : until_change (record { value = negsuc 9; rate = pos 3 }) ≡ Some 4
rounded_up = refl

-- 9 and 3 less each microsecond: 0 after three
pub exact : until_change (record { value = pos 9; rate = negsuc 2 }) ≡ Some 3
exact = refl

pub leaves_zero : until_change (record { value = pos 0; rate = negsuc 2 }) ≡ Some 1
leaves_zero = refl

pub moves_away : until_change (record { value = pos 9; rate = pos 3 }) ≡ None
moves_away = refl
