-- Stored steps: when one is valid, when it fits a frame, and how much of a run none fits.
use Rattle.std.specs.Prelude.{◌≡◌, ℕ, ◌+◌, Bool, true, false, ◌&&◌, List, [], ◌∷◌, Option, Some, None, nat_eq, slice_get, if◌then◌else◌}
use Rattle.std.specs.List.{list_any, Contains}
use Rattle.std.specs.Ordering.{int_eq}
use Rattle.aerie_base.specs.declared.values.Value.{Value}
use Rattle.aerie_base.specs.declared.models.model.Parts.{Parts}
use Rattle.aerie_base.specs.expressions.Arithmetic.{same_value, same_truth}
use Rattle.effect_cells.specs.declared.effects.CellState.{CellState}
use Rattle.effect_cells.specs.declared.effects.CellState.TheVariants.{Counter, Register, Volume}
use Rattle.run_data.specs.declared.tasks.BodyId.{BodyId}
use Rattle.run_data.specs.declared.tasks.BodyId.TheVariants as body
use Rattle.run_data.specs.declared.tasks.TaskState.{TaskState}
use Rattle.run_data.specs.TaskFrames.{Frame}
use Rattle.run_data.specs.declared.frames.Record.{Record}
use Rattle.run_data.specs.declared.runs.Instant.{Instant}
use Rattle.run_data.specs.declared.runs.Run.{Run}
use Rattle.run_data.specs.Frames.{read_from}
use Rattle.run_data.specs.Jobs.{AreCellsOf}
use Rattle.run_data.specs.Steps.{Stepped, step_of}
use Rattle.run_data.specs.TaskStates.{body_of}

-- ---- valid records

-- the record of a frame: all but its path
abbrev pub record_of : Frame → Record
record_of frame = record {
  before = frame.before;
  reads = frame.reads;
  items = frame.items;
  status = frame.status;
  cost = frame.cost;
}

abbrev pub stepped_record : TaskState → Stepped → Option Record
stepped_record before None = None
stepped_record before (Some (status, so_far)) = Some (record {
  before = before;
  reads = read_from 0 so_far.read_flags so_far.view;
  items = so_far.items;
  status = status;
  cost = so_far.cost;
})

-- cells agree with reads where each cell that was read has the state that it had then
abbrev pub Agrees : List CellState → List (ℕ × CellState) → Type 0
Agrees cells [] = Unit {0}
Agrees cells (read ∷ rest) = (slice_get cells read.0 ≡ Some read.1) × Agrees cells rest

-- A record is valid for a model where the step from its state, in every view that agrees with its reads, is the record.
abbrev pub IsValid : Parts → Record → Type 0
IsValid model of =
    (view : List CellState) → AreCellsOf model view → Agrees view of.reads →
    stepped_record of.before (step_of (body_of model of.before.kind) of.before view of.cost) ≡ Some of

-- ---- records that fit

abbrev pub same_body : BodyId → BodyId → Bool
same_body (body.Activity kind) (body.Activity other) = nat_eq kind other
same_body (body.Daemon number) (body.Daemon other) = nat_eq number other
same_body (body.Activity kind) (body.Daemon other) = false
same_body (body.Daemon number) (body.Activity other) = false

abbrev pub same_locals : List Value → List Value → Bool
same_locals [] [] = true
same_locals [] (other ∷ others) = false
same_locals (value ∷ values) [] = false
same_locals (value ∷ values) (other ∷ others) = same_value value other && same_locals values others

abbrev pub same_task : TaskState → TaskState → Bool
same_task state other = same_body state.kind other.kind && nat_eq state.at other.at && same_locals state.locals other.locals

abbrev pub same_cell : CellState → CellState → Bool
same_cell (Counter number) (Counter other) = int_eq number other
same_cell (Register value conflicted) (Register other flag) = same_value value other && same_truth conflicted flag
same_cell (Volume volume rate) (Volume other flow) = int_eq volume other && int_eq rate flow
same_cell _ _ = false

abbrev pub same_reads : List (ℕ × CellState) → List (ℕ × CellState) → Bool
same_reads [] [] = true
same_reads [] (other ∷ others) = false
same_reads (read ∷ reads) [] = false
same_reads (read ∷ reads) (other ∷ others) = nat_eq read.0 other.0 && same_cell read.1 other.1 && same_reads reads others

-- whether some record has this state and these reads
abbrev pub has_fit : List Record → Frame → Bool
has_fit records frame = list_any (λ of. same_task of.before frame.before && same_reads of.reads frame.reads) records

-- the costs together of those frames for which no record has the same state and the same reads
abbrev pub unmatched : List Frame → List Record → ℕ
unmatched [] records = 0
unmatched (frame ∷ rest) records = if has_fit records frame then unmatched rest records else frame.cost + unmatched rest records

-- ---- even instants

-- an instant is even with a run where that has an instant at the same time with equal batches
pub record EvenWith (instant other : Instant) : Type 0 where
  pub time : other.time ≡ instant.time
  pub batches : other.batches ≡ instant.batches

abbrev pub IsEven : Run → Instant → Type 0
IsEven old instant = (other : Instant) × (Contains old.instants other × EvenWith instant other)
