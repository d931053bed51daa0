-- All frames of a run.
use Rattle.std.specs.Prelude.{◌≡◌, ℕ, ◌+◌, ◌*◌, ◌≤◌, List, [], ◌∷◌, ◌++◌, length}
use Rattle.run_data.specs.TaskFrames.{Frame}
use Rattle.run_data.specs.declared.frames.Record.{Record}
use Rattle.run_data.specs.declared.runs.Instant.{Instant}
use Rattle.run_data.specs.declared.runs.Outcome.TheVariants.{Completed}
use Rattle.run_data.specs.declared.runs.Run.{Run}
use Rattle.run_data.specs.Records.{unmatched}

-- the frames of batches, batch by batch
abbrev pub frames_in_batches : List (List Frame) → List Frame
frames_in_batches [] = []
frames_in_batches (frames ∷ rest) = frames ++ frames_in_batches rest

-- the frames of instants, instant by instant
abbrev pub frames_in_instants : List Instant → List Frame
frames_in_instants [] = []
frames_in_instants (instant ∷ rest) = frames_in_batches instant.batches ++ frames_in_instants rest

-- all frames of a run
abbrev pub frames_in_run : Run → List Frame
frames_in_run run = frames_in_instants run.instants

-- if the run was completed, a count rose by at most what its frames cost that no record fits
abbrev pub PaysForRun : Run → List Record → ℕ → ℕ → Type 0
PaysForRun run records before after = run.outcome ≡ Completed → after ≤ before + unmatched (frames_in_run run) records

-- and another by at most two for each of its frames
abbrev pub LooksForRun : Run → ℕ → ℕ → Type 0
LooksForRun run before after = run.outcome ≡ Completed → after ≤ before + 2 * length (frames_in_run run)
