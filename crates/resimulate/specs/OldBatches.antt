-- The batch of an old run beside that of a new one: at the same time, and at the same place of its instant.
use Rattle.std.specs.Prelude.{◌≡◌, ℕ, ◌<◌, ◌≤◌, Bool, nat_lt, List, [], ◌∷◌, Option, Some, None, slice_get, nat_eq, if◌then◌else◌}
use Rattle.std.specs.Option.{option_and_then}
use Rattle.run_data.specs.TaskFrames.{Frame}
use Rattle.run_data.specs.declared.runs.Instant.{Instant}

-- whether an instant is before a time
abbrev pub is_earlier : ℕ → Instant → Bool
is_earlier time instant = nat_lt instant.time time

-- the instants before an index are before a time
abbrev pub AreEarly : ℕ → ℕ → List Instant → Type 0
AreEarly until at instants = (k : ℕ) (instant : Instant) → slice_get instants k ≡ Some instant → k < at → instant.time < until

-- an index is that of the first instant that is not before a time, or behind all where there is none
pub record IsFirstFrom (time at : ℕ) (instants : List Instant) : Type 0 where
  pub early : AreEarly time at instants
  pub late : (instant : Instant) → slice_get instants at ≡ Some instant → time ≤ instant.time

-- the instant at a time
abbrev pub instant_at_time : ℕ → List Instant → Option Instant
instant_at_time time [] = None
instant_at_time time (instant ∷ rest) = if nat_eq instant.time time then Some instant else instant_at_time time rest

-- the batch at a place of an instant, where there is one
abbrev pub batch_of : ℕ → Option Instant → Option (List Frame)
batch_of place there = option_and_then (λ instant. slice_get instant.batches place) there

-- the batch at a time and a place
abbrev pub batch_at : ℕ → ℕ → List Instant → Option (List Frame)
batch_at time place instants = batch_of place (instant_at_time time instants)
