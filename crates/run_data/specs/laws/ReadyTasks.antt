-- The ready tasks by an index of their paths and numbers.
use Rattle.std.specs.Prelude.{◌≡◌, ℕ, Bool, true, false, List, [], ◌∷◌, Option, Some, None, slice_get}
use Rattle.std.specs.Map.{lookup}
use Rattle.std.specs.BTreeMap.{BTreeMap, is_at, IsOrdered}
use Rattle.aerie_base.specs.Paths.{path_cmp}
use Rattle.effect_cells.specs.declared.effects.CellState.{CellState}
use Rattle.run_data.specs.declared.jobs.Job.{Job}
use Rattle.run_data.specs.Tasks.{TaskPhase, anchored, ready, delayed, waiting, calling, over, Task, Table, task_at, ready_jobs, job_if_ready}
use Rattle.run_data.specs.laws.NumberedTasks.{sorted_tasks, Distinct}

abbrev pub is_ready_phase : TaskPhase → Bool
is_ready_phase (ready state) = true
is_ready_phase (anchored to edge start state) = false
is_ready_phase (delayed until state) = false
is_ready_phase (waiting condition state) = false
is_ready_phase (calling child into state) = false
is_ready_phase (over result) = false

-- whether there is a ready task
abbrev pub is_ready : Option Task → Bool
is_ready None = false
is_ready (Some task) = is_ready_phase task.phase

-- the number of a path in an index
abbrev pub number_of_path : BTreeMap (List ℕ) ℕ → List ℕ → Option ℕ
number_of_path index path = lookup (is_at (path_cmp path)) index.entries

abbrev pub job_of : List CellState → Option (List ℕ × Task) → List (ℕ × Job) → List (ℕ × Job)
job_of cells None rest = rest
job_of cells (Some entry) rest = job_if_ready cells entry.0 entry.1 entry.1.phase rest

-- the jobs of some numbers
abbrev pub jobs_by : List CellState → Table → List (List ℕ × ℕ) → List (ℕ × Job)
jobs_by cells tasks [] = []
jobs_by cells tasks (entry ∷ rest) = job_of cells (slice_get tasks entry.1) (jobs_by cells tasks rest)

-- each path of an index has the number of a ready task of that path
abbrev pub HasReadyTasks : Table → BTreeMap (List ℕ) ℕ → Type 0
HasReadyTasks tasks index =
    (path : List ℕ) (number : ℕ) → number_of_path index path ≡ Some number →
    (task : Task) × (slice_get tasks number ≡ Some (path, task)) × (is_ready_phase task.phase ≡ true)

-- each ready task is in it
abbrev pub HasAllReady : Table → BTreeMap (List ℕ) ℕ → Type 0
HasAllReady tasks index =
    (path : List ℕ) → is_ready (task_at (sorted_tasks tasks) path) ≡ true → (number : ℕ) × (number_of_path index path ≡ Some number)

-- such an index, in order of path, has the jobs of the ready tasks in their order
abbrev pub ReadyByIndex : Type 0
ReadyByIndex =
    (cells : List CellState) (tasks : Table) (index : BTreeMap (List ℕ) ℕ) → Distinct tasks → IsOrdered path_cmp index →
    HasReadyTasks tasks index → HasAllReady tasks index →
    ready_jobs cells (sorted_tasks tasks) ≡ jobs_by cells tasks index.entries
