-- Which frames of a run are noted: those that were not held.
use Rattle.std.specs.Prelude.{◌≡◌, ℕ, ◌-◌, List, [], ◌∷◌, ◌++◌, Option, Some, None, drop, length, take, if◌then◌else◌}
use Rattle.std.specs.List.{All, Contains}
use Rattle.bench.specs.HeldSteps.{Extends}
use Rattle.record_book.specs.StoredSteps.{IsHeldIn}
use Rattle.run_data.specs.declared.frames.Record.{Record}
use Rattle.run_data.specs.declared.runs.Instant.{Instant}
use Rattle.run_data.specs.Records.{has_fit}
use Rattle.run_data.specs.TaskFrames.{Frame}

-- the frames for which no record has the same state and the same reads
abbrev pub unheld : List Record → List Frame → List Frame
unheld records [] = []
unheld records (frame ∷ rest) = if has_fit records frame then unheld records rest else frame ∷ unheld records rest

-- frames were taken in, and those that the first records had not are noted
pub record Notes (first : List Record) (frames : List Frame) (before after : List Record) (noted noted_after : List Frame) : Type 0 where
  pub extends : Extends before after
  pub held : All (IsHeldIn after) frames
  pub is_noted : noted_after ≡ noted ++ unheld first frames

-- the instants between so many of the first and so many of the last
abbrev pub between : ℕ → ℕ → List Instant → List Instant
between front back instants = take (length (drop front instants) - back) (drop front instants)

-- ---- frames beside old ones

-- the same state and the same reads
pub record IsSameStep (frame other : Frame) : Type 0 where
  pub before : other.before ≡ frame.before
  pub reads : other.reads ≡ frame.reads

-- one of the old frames has the state and the reads of a frame
pub record HasSameStep (old : List Frame) (frame : Frame) : Type 0 where
  pub other : Frame
  pub there : Contains old other
  pub like : IsSameStep frame other

-- the batches of an instant, where there is one
abbrev pub batches_of : Option Instant → List (List Frame)
batches_of None = []
batches_of (Some instant) = instant.batches
