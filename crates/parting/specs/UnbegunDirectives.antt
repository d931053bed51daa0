-- The directives in which plans differ have not begun before the time before which none of them is due.
use Rattle.std.specs.Prelude.{◌≡◌, ℕ, ◌<◌, ◌≤◌, Bool, true, false, IsTrue, List, Some}
use Rattle.aerie_base.specs.Paths.{root}
use Rattle.aerie_base.specs.declared.models.model.Parts.{Parts}
use Rattle.aerie_base.specs.declared.plans.Plan.{Plan}
use Rattle.aerie_base.specs.models.ValidModel.{valid_model}
use Rattle.aerie_base.specs.plans.OfModel.{IsPlanOf}
use Rattle.run_data.specs.Fresh.{SimulationState, IsReached}
use Rattle.run_data.specs.Tasks.{delayed, Task, task_at}
use Rattle.run_data.specs.Transitions.{more}
use Rattle.run_data.specs.declared.tasks.TaskState.{TaskState}
use Rattle.run_data.specs.laws.LateDifferences.{is_of_differing}
use Rattle.run_data.specs.laws.Orders.{EachOf}
use Rattle.parting.specs.PlainLateness.{IsPlainlyLate}

-- a directive that is delayed to its start, which is not before a time
pub record IsYetToStart (until : ℕ) (path : List ℕ) (task : Task) : Type 0 where
  pub id : ℕ
  pub path_is : path ≡ root id
  pub begun : task.begun ≡ false
  pub start : ℕ
  pub state : TaskState
  pub phase : task.phase ≡ delayed start state
  pub late : until ≤ start

-- in each state before that time, each task of a directive that differs is such a one
abbrev pub HaveNotStarted : Type 0
HaveNotStarted =
    (differs : ℕ → Bool) (until : ℕ) (model : Parts) (plan : Plan) (bound : ℕ) → IsTrue (valid_model model) → IsPlanOf model plan →
    EachOf (IsPlainlyLate differs until) plan.directives → (at : SimulationState) → IsReached model plan bound (more at) → at.time < until →
    (path : List ℕ) (task : Task) → is_of_differing differs path ≡ true → task_at at.table path ≡ Some task → IsYetToStart until path task
