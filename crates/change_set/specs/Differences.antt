-- In which cells and tasks two simulations differ at a time, and what of a run is touched by that.
use Rattle.std.specs.Prelude.{◌≡◌, ℕ, Bool, false, ◌||◌, List, nat_eq, if◌then◌else◌, slice_index_or}
use Rattle.std.specs.List.{list_any}
use Rattle.effect_cells.specs.declared.effects.CellState.{CellState}
use Rattle.run_data.specs.Spans.{same_path}
use Rattle.run_data.specs.TaskFrames.{Frame}
use Rattle.run_data.specs.declared.runs.Instant.{Instant}

pub record Differences : Type 0 where
  -- a flag for each cell, which says whether it is noted; a cell beyond them is not
  pub cells : List Bool
  -- the paths of the tasks that are noted
  pub tasks : List (List ℕ)

abbrev pub notes_cell : Differences → ℕ → Bool
notes_cell noted cell = slice_index_or noted.cells cell false

abbrev pub notes_task : Differences → List ℕ → Bool
notes_task noted path = list_any (same_path path) noted.tasks

-- no cell is noted, no task is, and neither
abbrev pub NotesNoCell : Differences → Type 0
NotesNoCell noted = (cell : ℕ) → notes_cell noted cell ≡ false

abbrev pub NotesNoTask : Differences → Type 0
NotesNoTask noted = (path : List ℕ) → notes_task noted path ≡ false

abbrev pub NotesNothing : Differences → Type 0
NotesNothing noted = NotesNoCell noted × NotesNoTask noted

-- whether a noted cell is among those that were read
abbrev pub notes_any_read : Differences → List (ℕ × CellState) → Bool
notes_any_read noted reads = list_any (λ read. notes_cell noted read.0) reads

-- whether a frame read a noted cell or belongs to a noted task
abbrev pub touches_frame : Differences → Frame → Bool
touches_frame noted frame = notes_any_read noted frame.reads || notes_task noted frame.path

-- whether a frame of a batch did
abbrev pub touches_batch : Differences → List Frame → Bool
touches_batch noted frames = list_any (touches_frame noted) frames

-- whether a frame of an instant did
abbrev pub touches_instant : Differences → Instant → Bool
touches_instant noted instant = list_any (touches_batch noted) instant.batches

-- ---- what noting changes

-- the flag of a cell becomes this, and no other flag changes
abbrev pub PutsFlagAlone : ℕ → Bool → List Bool → List Bool → Type 0
PutsFlagAlone cell flag before after =
    (other : ℕ) → slice_index_or after other false ≡ (if nat_eq other cell then flag else slice_index_or before other false)

-- a cell is noted or taken back, and no other is
abbrev pub NotesCellAlone : ℕ → Bool → Differences → Differences → Type 0
NotesCellAlone cell differs before after =
    (other : ℕ) → notes_cell after other ≡ (if nat_eq other cell then differs else notes_cell before other)

-- a task is noted or taken back, and no other is
abbrev pub NotesTaskAlone : List ℕ → Bool → Differences → Differences → Type 0
NotesTaskAlone path differs before after =
    (other : List ℕ) → notes_task after other ≡ (if same_path path other then differs else notes_task before other)
