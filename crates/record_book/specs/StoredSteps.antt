-- Stored steps: records of steps that were run, kept so that the same step need not be run again.
use Rattle.std.specs.Prelude.{◌≡◌, ℕ, ◌+◌, ◌≤◌, Bool, false, ◌&&◌, IsTrue, List, [], ◌∷◌, ◌++◌, Some, length, map, slice_get, take, if◌then◌else◌}
use Rattle.std.specs.List.{All, list_any}
use Rattle.aerie_base.specs.declared.models.model.Parts.{Parts}
use Rattle.effect_cells.specs.declared.effects.CellState.{CellState}
use Rattle.run_data.specs.declared.tasks.TaskState.{TaskState}
use Rattle.run_data.specs.declared.frames.Record.{Record}
use Rattle.run_data.specs.declared.runs.Run.{Run}
use Rattle.run_data.specs.TaskFrames.{Frame}
use Rattle.run_data.specs.Records.{Agrees, IsValid, record_of, same_task, same_reads}
use Rattle.run_data.specs.RunFrames.{frames_in_run}

-- the records of steps, and the model that they are of
pub record StoredSteps : Type 0 where
  pub model : Parts
  pub records : List Record

-- how many records a chapter has at most
abbrev pub chapter_limit : ℕ
chapter_limit = 4_096

-- records of a chapter of a model: few, and each valid
abbrev pub AreChapterOf : Parts → List Record → Type 0
AreChapterOf model records = (length records ≤ chapter_limit) × All (IsValid model) records

-- how many records a book may have once it has taken in a chapter
abbrev pub book_limit : ℕ
book_limit = 200_000

-- ---- what is found

-- whether one of the records has this state and these reads
abbrev pub has_record : List Record → TaskState → List (ℕ × CellState) → Bool
has_record records state reads = list_any (λ of. same_task of.before state && same_reads of.reads reads) records

-- a record has the state and the reads of a frame
abbrev pub IsHeldIn : List Record → Frame → Type 0
IsHeldIn records frame = IsTrue (has_record records frame.before frame.reads)

-- a record from this state, with whose reads the view agrees
pub record FitsView (state : TaskState) (view : List CellState) (of : Record) : Type 0 where
  pub before : of.before ≡ state
  pub reads : Agrees view of.reads

-- no two have the same state and the same reads
abbrev pub HasNoneTwice : List Record → Type 0
HasNoneTwice [] = Unit {0}
HasNoneTwice (of ∷ rest) = (has_record rest of.before of.reads ≡ false) × HasNoneTwice rest

-- the record at a place has this state and these reads
pub record IsPlaceOfRecord (records : List Record) (state : TaskState) (reads : List (ℕ × CellState)) (at : ℕ) : Type 0 where
  pub of : Record
  pub there : slice_get records at ≡ Some of
  pub before : of.before ≡ state
  pub reads_ : of.reads ≡ reads

-- ---- what is taken in

-- the records with one more, where none of them has its state and its reads
abbrev pub with_record : List Record → Record → List Record
with_record records of = if has_record records of.before of.reads then records else records ++ of ∷ []

-- the records with several more, one after another
abbrev pub with_records : List Record → List Record → List Record
with_records records [] = records
with_records records (of ∷ rest) = with_records (with_record records of) rest

-- the records with those of frames
abbrev pub HasMoreFrames : List Record → List Frame → List Record → Type 0
HasMoreFrames records frames made = made ≡ with_records records (map record_of frames)

-- the records of the frames of a run
abbrev pub records_in_run : Run → List Record
records_in_run run = map record_of (frames_in_run run)

-- the records with the first of several more
abbrev pub HasFirstOf : List Record → List Record → List Record → Type 0
HasFirstOf records more made = (count : ℕ) × (made ≡ with_records records (take count more))

-- the records of a book with those of a chapter
abbrev pub with_chapter : StoredSteps → StoredSteps → StoredSteps
with_chapter book chapter = record { model = book.model; records = with_records book.records chapter.records }

-- a chapter may be taken in where it is of the book's model and both together have few enough records
pub record MayTakeIn (book chapter : StoredSteps) : Type 0 where
  pub model : chapter.model ≡ book.model
  pub few : length book.records + length chapter.records ≤ book_limit
