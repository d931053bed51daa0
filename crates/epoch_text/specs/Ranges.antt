-- The range of starts, and of the days on which they lie.
use Rattle.std.specs.Prelude.{ℤ, pos, neg_ℤ, ◌≤ℤ◌}

-- from 1900-01-01T00:00:00 to 9000-12-31T23:59:59.999999, in microseconds from 1970-01-01T00:00:00Z
abbrev pub IsStart : ℤ → Type 0
IsStart micros = (neg_ℤ (pos 2_208_988_800_000_000) ≤ℤ micros) × (micros ≤ℤ pos 221_876_927_999_999_999)

-- the same up to the latest time of a plan, 10^15 microseconds after the last start
abbrev pub IsShown : ℤ → Type 0
IsShown micros = (neg_ℤ (pos 2_208_988_800_000_000) ≤ℤ micros) × (micros ≤ℤ pos 222_876_927_999_999_999)

-- the days from 1900-01-01 to 9000-12-31, in days from 1970-01-01
abbrev pub IsStartDay : ℤ → Type 0
IsStartDay day = (neg_ℤ (pos 25_567) ≤ℤ day) × (day ≤ℤ pos 2_568_019)
