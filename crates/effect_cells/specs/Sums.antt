-- Sums of whole numbers, kept far below the ends of their types, and what flows into a volume.
use Rattle.std.specs.Prelude.{◌≡◌, ℕ, ℤ, pos, negsuc, ◌<◌, ◌^◌, ◌+ℤ◌, ◌*ℤ◌, refl}
use Rattle.std.specs.Int.RustNames.{unsigned_abs}

-- the magnitude that every sum stays below
abbrev pub sum_limit : ℕ
sum_limit = 2 ^ 120

abbrev pub IsSmall : ℤ → Type 0
IsSmall sum = unsigned_abs sum < sum_limit

-- a number in its range and a sum below that limit are together below this one
abbrev pub IsWide : ℤ → Type 0
IsWide sum = unsigned_abs sum < 2 ^ 121

-- the same of a volume and its rate
abbrev pub AreWide : ℤ × ℤ → Type 0
AreWide sums = IsWide sums.0 × IsWide sums.1

abbrev pub AreSmall : ℤ × ℤ → Type 0
AreSmall sums = IsSmall sums.0 × IsSmall sums.1

-- what is added to a volume and to its rate
abbrev pub both_sums : ℤ × ℤ → ℤ × ℤ → ℤ × ℤ
both_sums a b = (a.0 +ℤ b.0, a.1 +ℤ b.1)

-- a volume and its rate so many microseconds later: the volume rises by the rate each microsecond
abbrev pub flowed : ℤ × ℤ → ℕ → ℤ × ℤ
flowed state dt = (state.0 +ℤ state.1 *ℤ pos dt, state.1)

-- what flows in is small, and the volume with it
abbrev pub CanFlow : ℤ × ℤ → ℕ → Type 0
CanFlow state dt = IsSmall (state.1 *ℤ pos dt) × IsSmall (state.0 +ℤ state.1 *ℤ pos dt)

-- ---- worked cases

pub three_a_microsecond : flowed (pos 5, pos 3) 4 ≡ (pos 17, pos 3)
three_a_microsecond = refl

pub one_less_a_microsecond : flowed (pos 1, negsuc 0) 3 ≡ (negsuc 1, negsuc 0)
one_less_a_microsecond = refl
