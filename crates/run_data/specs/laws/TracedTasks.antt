-- What stands in the table of a simulation once an instant is settled, by the frames so far.
use Rattle.std.specs.Prelude.{◌≡◌, ℕ, ◌+◌, false, List, [], ◌∷◌, ◌++◌, map, Option, Some, None, if◌then◌else◌}
use Rattle.std.specs.BTreeMap.{is_at}
use Rattle.aerie_base.specs.declared.models.model.Parts.{Parts}
use Rattle.aerie_base.specs.declared.plans.Plan.{Plan}
use Rattle.aerie_base.specs.Paths.{path_cmp}
use Rattle.run_data.specs.TaskFrames.{Frame}
use Rattle.run_data.specs.declared.runs.Instant.{Instant}
use Rattle.run_data.specs.Fresh.{SimulationState, IsReached}
use Rattle.run_data.specs.Tasks.{Task, task_at, task_after, children_made, children_in}
use Rattle.run_data.specs.Transitions.{more}
use Rattle.run_data.specs.laws.SettledInstants.{IsSettled}

-- ---- the frames so far, each with its time

abbrev pub timed : ℕ → List Frame → List (ℕ × Frame)
timed time frames = map (λ frame. (time, frame)) frames

abbrev pub timed_batches : ℕ → List (List Frame) → List (ℕ × Frame)
timed_batches time [] = []
timed_batches time (frames ∷ rest) = timed time frames ++ timed_batches time rest

abbrev pub timed_instants : List Instant → List (ℕ × Frame)
timed_instants [] = []
timed_instants (instant ∷ rest) = timed_batches instant.time instant.batches ++ timed_instants rest

abbrev pub frames_so_far : SimulationState → List (ℕ × Frame)
frames_so_far at = timed_instants at.instants ++ timed_batches at.time at.batches

-- ---- a task by its frames

-- a task as its frames leave it: the last tells what it does, all of them how many children it has made
abbrev pub traced : List ℕ → List (ℕ × Frame) → Option Task → Option Task
traced path [] so_far = so_far
traced path (entry ∷ rest) so_far =
    traced path rest
    (if is_at (path_cmp path) entry.1.path then Some (task_after entry.0 entry.1.status (children_made so_far + children_in entry.1.items)) else so_far)

-- a task with frames is as they leave it, and one without has not begun
abbrev pub IsTraced : Option Task → Option Task → Type 0
IsTraced (Some task) found = found ≡ Some task
IsTraced None found = (task : Task) → found ≡ Some task → (task.begun ≡ false) × (task.made ≡ 0)

-- so is each task of a settled state
abbrev pub TasksAreTraced : Type 0
TasksAreTraced =
    (model : Parts) (plan : Plan) (bound : ℕ) (at : SimulationState) → IsReached model plan bound (more at) → IsSettled at →
    (path : List ℕ) → IsTraced (traced path (frames_so_far at) None) (task_at at.table path)
