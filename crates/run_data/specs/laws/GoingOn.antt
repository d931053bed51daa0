-- Which callers and anchored tasks go on after a batch, and that they may do so one after another.
use Rattle.std.specs.Prelude.{◌≡◌, ℕ, false, List, [], ◌∷◌, Some, slice_get, slice_set}
use Rattle.aerie_base.specs.Paths.{child_path, root}
use Rattle.aerie_base.specs.declared.plans.Edge.{Edge}
use Rattle.aerie_base.specs.declared.plans.Edge.TheVariants.{Start, End}
use Rattle.run_data.specs.TaskFrames.{Frame}
use Rattle.run_data.specs.Endings.{has_ended, result_of, has_begun, has_come, gone_on}
use Rattle.run_data.specs.Tasks.{TaskPhase, anchored, ready, delayed, waiting, calling, over, Task, Table, task_at, on_each, after_frames}
use Rattle.run_data.specs.laws.EndedTasks.{OverUnder}
use Rattle.run_data.specs.laws.NumberedTasks.{sorted_tasks, Distinct}
use Rattle.run_data.specs.laws.OrderedTables.{IsOrderedTable}

-- ---- one after another

-- tasks end, result and begin as those of a table
pub record EndsAs (whole : Table) (tasks : Table) : Type 0 where
  pub ended : (path : List ℕ) → has_ended (sorted_tasks tasks) path ≡ has_ended whole path
  pub results : (path : List ℕ) → result_of (task_at (sorted_tasks tasks) path) ≡ result_of (task_at whole path)
  pub begun : (path : List ℕ) → has_begun (task_at (sorted_tasks tasks) path) ≡ has_begun (task_at whole path)

-- Tasks may go on one after another, each judged on those that are there then: they end as before, and what is left to
-- change is the same.
abbrev pub GoOnInTurn : Type 0
GoOnInTurn =
    (now : ℕ) (whole tasks : Table) (number : ℕ) (path : List ℕ) (task : Task) → Distinct tasks → EndsAs whole tasks →
    slice_get tasks number ≡ Some (path, task) →
    let gone = slice_set tasks number (path, gone_on (sorted_tasks tasks) now path task) in
    EndsAs whole gone × (on_each (gone_on whole now) gone ≡ on_each (gone_on whole now) tasks)

-- all have gone on where each stays as it is
abbrev pub AllGoneOn : Type 0
AllGoneOn =
    (now : ℕ) (whole tasks : Table) → EndsAs whole tasks →
    ((number : ℕ) (path : List ℕ) (task : Task) → slice_get tasks number ≡ Some (path, task) → gone_on (sorted_tasks tasks) now path task ≡ task) →
    on_each (gone_on whole now) tasks ≡ tasks

-- ---- which go on

-- a frame of these at a path
pub data HasFrame (path : List ℕ) : List Frame → Type 0 where
  at_first : {frame : Frame} {rest : List Frame} → frame.path ≡ path → HasFrame path (frame ∷ rest)
  at_later : {frame : Frame} {rest : List Frame} → HasFrame path rest → HasFrame path (frame ∷ rest)

-- a caller's callee has not ended, an anchor has not come
abbrev pub IsQuiet : Table → List ℕ → TaskPhase → Type 0
IsQuiet table path (calling child into state) = has_ended table (child_path path child) ≡ false
IsQuiet table path (anchored to edge start state) = has_come table to edge ≡ false
IsQuiet table path (ready state) = Unit {0}
IsQuiet table path (delayed until state) = Unit {0}
IsQuiet table path (waiting condition state) = Unit {0}
IsQuiet table path (over result) = Unit {0}

-- each task of a table is quiet
abbrev pub AllQuiet : Table → Table → Type 0
AllQuiet table [] = Unit {0}
AllQuiet table (entry ∷ rest) = IsQuiet table entry.0 entry.1.phase × AllQuiet table rest

-- an edge of a directive may come with some frames: it has one itself, or one that is over is under it
abbrev pub MayComeBy : List Frame → ℕ → Edge → Type 0
MayComeBy frames to Start = HasFrame (root to) frames
MayComeBy frames to End = OverUnder (root to) frames

-- some frames may let a task go on
abbrev pub MayGoOnBy : List Frame → List ℕ → TaskPhase → Type 0
MayGoOnBy frames path (calling child into state) = OverUnder (child_path path child) frames
MayGoOnBy frames path (anchored to edge start state) = MayComeBy frames to edge
MayGoOnBy frames path (ready state) = ⊥
MayGoOnBy frames path (delayed until state) = ⊥
MayGoOnBy frames path (waiting condition state) = ⊥
MayGoOnBy frames path (over result) = ⊥

-- a quiet task that no frame lets go on stays as it is after these frames
abbrev pub OthersStay : Type 0
OthersStay =
    (now : ℕ) (frames : List Frame) (table : Table) (path : List ℕ) (task : Task) → IsOrderedTable table →
    IsQuiet table path task.phase → (MayGoOnBy frames path task.phase → ⊥) →
    gone_on (after_frames now frames table) now path task ≡ task

-- each is quiet once it has gone on
abbrev pub QuietAfter : Type 0
QuietAfter =
    (now : ℕ) (whole : Table) (path : List ℕ) (task : Task) → IsQuiet whole path (gone_on whole now path task).phase

-- ---- the change of the whole table

-- where all tasks are quiet none goes on
abbrev pub NoneGoesOn : Type 0
NoneGoesOn = (now : ℕ) (table : Table) → AllQuiet table table → on_each (gone_on table now) table ≡ table

-- once all have gone on, at whatever time they are judged again, none goes on
abbrev pub GoOnOnce : Type 0
GoOnOnce =
    (now later : ℕ) (table : Table) →
    let gone = on_each (gone_on table now) table in AllQuiet gone gone × (on_each (gone_on gone later) gone ≡ gone)
