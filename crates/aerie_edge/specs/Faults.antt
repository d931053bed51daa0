-- When a fault of the outside world may be answered.
use Rattle.std.specs.Prelude.{ℕ, ◌+◌, ◌-◌, ◌^◌, ◌≤◌, min, Result, OnErr}

-- a count after one more: the last value of 64 bits stays as it is
abbrev pub raised : ℕ → ℕ
raised count = min (count + 1) (2 ^ 64 - 1)

-- the count is one more, or more, or stands at its last value
abbrev pub Rose : ℕ → ℕ → Type 0
Rose before after = raised before ≤ after

-- a count of faults never falls, and a failure is answered only where it rose
pub record HasCause {T E : Type 0} (before after : ℕ) (result : Result T E) : Type 0 where
  pub later : before ≤ after
  pub failed : OnErr result (Rose before after)
