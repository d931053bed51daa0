-- Which steps are held: those that were, and those of the frames of runs.
use Rattle.std.specs.Prelude.{◌≡◌, ◌+◌, ◌≤◌, List, [], ◌++◌, Option, Some, None, length}
use Rattle.std.specs.List.{All, Contains}
use Rattle.aerie_base.specs.declared.models.model.Parts.{Parts}
use Rattle.record_book.specs.StoredSteps.{IsHeldIn, book_limit, records_in_run}
use Rattle.run_data.specs.declared.frames.Record.{Record}
use Rattle.run_data.specs.declared.runs.Instant.{Instant}
use Rattle.run_data.specs.declared.runs.Run.{Run}
use Rattle.run_data.specs.KeptRuns.{KeptRun}
use Rattle.run_data.specs.Records.{IsValid, record_of}
use Rattle.run_data.specs.RunFrames.{frames_in_run}

-- all that was held still is
abbrev pub HoldsAll : List Record → List Record → Type 0
HoldsAll before after = (of : Record) → Contains before of → Contains after of

-- more records stand behind the others
pub record Extends (before after : List Record) : Type 0 where
  pub more : List Record
  pub is : after ≡ before ++ more

-- a record with the state and the reads of each frame of a run
abbrev pub HoldsRun : List Record → Run → Type 0
HoldsRun records run = All (IsHeldIn records) (frames_in_run run)

-- the same, instant by instant and batch by batch
abbrev pub HoldsInstants : List Record → List Instant → Type 0
HoldsInstants records instants = All (λ (instant : Instant). All (All (IsHeldIn records)) instant.batches) instants

-- a run's frames are held, unless the records and they are together more than 200,000
abbrev pub HoldsRunWithin : List Record → Run → Type 0
HoldsRunWithin records run = length records + length (frames_in_run run) ≤ book_limit → HoldsRun records run

-- the steps of a kept run, where there is one
abbrev pub records_of_kept : Option KeptRun → List Record
records_of_kept None = []
records_of_kept (Some kept) = records_in_run kept.run

-- the instants of a kept run, where there is one
abbrev pub instants_of_kept : Option KeptRun → List Instant
instants_of_kept None = []
instants_of_kept (Some kept) = kept.run.instants

-- the steps of all frames of instants are valid for a model
abbrev pub AreValidFrames : Parts → List Instant → Type 0
AreValidFrames model instants = All (λ (instant : Instant). All (All (λ frame. IsValid model (record_of frame))) instant.batches) instants
