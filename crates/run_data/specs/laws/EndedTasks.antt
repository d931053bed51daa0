-- When tasks have ended: by the paths of the open bodies, and by the frames of a batch.
use Rattle.std.specs.Prelude.{◌≡◌, ◌↔◌, ℕ, Bool, true, false, IsTrue, List, ◌∷◌, Option, Some, None}
use Rattle.aerie_base.specs.Paths.{is_prefix, AnyUnder}
use Rattle.run_data.specs.TaskFrames.{Frame}
use Rattle.run_data.specs.declared.frames.Status.{Status}
use Rattle.run_data.specs.declared.frames.Status.TheVariants as status
use Rattle.run_data.specs.Endings.{is_open, has_ended}
use Rattle.run_data.specs.Tasks.{Task, Table, task_at, with_task, after_frames}
use Rattle.run_data.specs.laws.NumberedTasks.{sorted_tasks, Distinct}
use Rattle.run_data.specs.laws.OrderedTables.{IsOrderedTable}

-- ---- open bodies

-- whether the body of a task is open; where there is no task, none is
abbrev pub open_is : Option Task → Bool
open_is None = false
open_is (Some task) = is_open task.phase

-- In a table in order a task has not ended exactly where an open body is its own or under it. So a set of the paths of
-- all open bodies tells it.
abbrev pub EndedByOpenBodies : Type 0
EndedByOpenBodies =
    (table : Table) (path : List ℕ) → IsOrderedTable table →
    (has_ended table path ≡ false) ↔ AnyUnder path (λ other. IsTrue (open_is (task_at table other)))

-- the same tasks have ended by number
abbrev pub EndedByNumber : Type 0
EndedByNumber = (tasks : Table) (path : List ℕ) → Distinct tasks → has_ended (sorted_tasks tasks) path ≡ has_ended tasks path

-- what is under an ended path has ended
abbrev pub EndedBelow : Type 0
EndedBelow =
    (table : Table) (path other : List ℕ) → is_prefix path other ≡ true → has_ended table path ≡ true → has_ended table other ≡ true

-- only what a path is under ends with its task, and only where the task's own body is over
abbrev pub NewlyEnded : Type 0
NewlyEnded =
    (tasks : Table) (path : List ℕ) (new : Task) (whose : List ℕ) → Distinct tasks →
    has_ended (sorted_tasks tasks) whose ≡ false → has_ended (with_task (sorted_tasks tasks) path new) whose ≡ true →
    (is_prefix whose path ≡ true) × (is_open new.phase ≡ false)

-- ---- frames

-- whether a body is open after a step that ended so
abbrev pub is_open_status : Status → Bool
is_open_status (status.Delayed by next) = true
is_open_status (status.Waiting condition next) = true
is_open_status (status.Calling into next) = true
is_open_status (status.Done result) = false
is_open_status (status.Faulted fault) = false

-- a frame of these whose body is over and that is under a path
pub data OverUnder (path : List ℕ) : List Frame → Type 0 where
  first : {frame : Frame} {rest : List Frame} → is_prefix path frame.path ≡ true → is_open_status frame.status ≡ false → OverUnder path (frame ∷ rest)
  later : {frame : Frame} {rest : List Frame} → OverUnder path rest → OverUnder path (frame ∷ rest)

-- what has ended with some frames has a frame under it whose body is over
abbrev pub EndedByFrames : Type 0
EndedByFrames =
    (now : ℕ) (frames : List Frame) (table : Table) (path : List ℕ) → IsOrderedTable table →
    has_ended table path ≡ false → has_ended (after_frames now frames table) path ≡ true → OverUnder path frames
