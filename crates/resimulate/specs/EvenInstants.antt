-- What a simulation beside an old run may count: what the frames of those instants cost that are not even with the old run.
use Rattle.std.specs.Prelude.{◌≡◌, ℕ, ◌+◌, ◌*◌, ◌≤◌, Bool, true, List, [], ◌∷◌, ◌++◌, length, if◌then◌else◌}
use Rattle.run_data.specs.TaskFrames.{Frame}
use Rattle.run_data.specs.declared.frames.Record.{Record}
use Rattle.run_data.specs.declared.runs.Instant.{Instant}
use Rattle.run_data.specs.declared.runs.Outcome.TheVariants.{Completed}
use Rattle.run_data.specs.declared.runs.Run.{Run}
use Rattle.run_data.specs.Records.{IsEven, unmatched}
use Rattle.run_data.specs.RunFrames.{frames_in_batches}

-- a test that passes no instant but those which are even with an old run
abbrev pub PassesEven : Run → (Instant → Bool) → Type 0
PassesEven old test = (instant : Instant) → test instant ≡ true → IsEven old instant

-- the frames of the instants that do not pass
abbrev pub frames_of_others : (Instant → Bool) → List Instant → List Frame
frames_of_others test [] = []
frames_of_others test (instant ∷ rest) =
    if test instant then frames_of_others test rest else frames_in_batches instant.batches ++ frames_of_others test rest

-- Whatever passes none but even instants: if the run was completed, a count rose by at most what the frames of the other
-- instants cost that no record fits.
abbrev pub PaysForUneven : Run → Run → List Record → ℕ → ℕ → Type 0
PaysForUneven old run records before after =
    run.outcome ≡ Completed → (test : Instant → Bool) → PassesEven old test → after ≤ before + unmatched (frames_of_others test run.instants) records

-- and another by at most two for each of these frames
abbrev pub LooksForUneven : Run → Run → ℕ → ℕ → Type 0
LooksForUneven old run before after =
    run.outcome ≡ Completed → (test : Instant → Bool) → PassesEven old test → after ≤ before + 2 * length (frames_of_others test run.instants)
