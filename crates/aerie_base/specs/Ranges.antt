-- The ranges of a model's numbers, of rates, of times and of counted steps.
use Rattle.std.specs.Prelude.{ℕ, ◌≤◌, ℤ, pos, negsuc, Bool, nat_le, Option, Some, None, if◌then◌else◌}
use Rattle.std.specs.Int.RustNames.{unsigned_abs}

-- a number lies from minus this to this, 10^18
abbrev pub number_limit : ℕ
number_limit = 1_000_000_000_000_000_000

-- the last time, 10^15 microseconds: somewhat less than 32 years
abbrev pub time_limit : ℕ
time_limit = 1_000_000_000_000_000

-- a rate lies from minus this to this, 10^12 millionths a microsecond, which are units a second
abbrev pub rate_limit : ℕ
rate_limit = 1_000_000_000_000

-- the most steps that a run or a part of it may take, 10^8
abbrev pub step_limit : ℕ
step_limit = 100_000_000

-- ---- numbers

-- whether this is a number of a model
abbrev pub is_number : ℤ → Bool
is_number value = nat_le (unsigned_abs value) number_limit

abbrev pub IsNumber : ℤ → Type 0
IsNumber value = unsigned_abs value ≤ number_limit

-- the number with this value, where there is one
abbrev pub checked_number : ℤ → Option ℤ
checked_number value = if is_number value then Some value else None

-- ---- rates

-- whether this is the rate of an accumulator
abbrev pub is_rate : ℤ → Bool
is_rate value = nat_le (unsigned_abs value) rate_limit

abbrev pub IsRate : ℤ → Type 0
IsRate value = unsigned_abs value ≤ rate_limit

-- ---- times

-- whether so many microseconds are a time
abbrev pub is_time : ℕ → Bool
is_time micros = nat_le micros time_limit

abbrev pub IsTime : ℕ → Type 0
IsTime micros = micros ≤ time_limit

-- the time of so many microseconds, where there is one
abbrev pub time_of : ℕ → Option ℕ
time_of micros = if is_time micros then Some micros else None

-- the same of a number with a sign: nothing is before 0
abbrev pub time_of_signed : ℤ → Option ℕ
time_of_signed (pos micros) = time_of micros
time_of_signed (negsuc n) = None
