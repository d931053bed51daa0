-- How many things there are of what is measured.
use Rattle.std.specs.Prelude.{ℕ, List, Option, Some, length, map}
use Rattle.std.specs.List.{sum}
use Rattle.run_data.specs.declared.runs.Instant.{Instant}
use Rattle.measure.specs.declared.watch.Measured.{Measured}

-- the frames of all batches of an instant
abbrev pub frame_count : Instant → ℕ
frame_count instant = sum (map length instant.batches)

-- how many things each call made
abbrev pub numbers_in : List Measured → List (Option ℕ)
numbers_in calls = map (λ call. Some call.number) calls
