-- What stands wherever the simulation of a plan of a valid model comes.
use Rattle.std.specs.Prelude.{◌≡◌, ℕ, ◌<◌, ◌≤◌, IsTrue, List, Option, Some, option_map}
use Rattle.std.specs.List.{All}
use Rattle.aerie_base.specs.declared.values.Value.{Value}
use Rattle.aerie_base.specs.declared.models.model.Parts.{Parts}
use Rattle.aerie_base.specs.declared.plans.Plan.{Plan}
use Rattle.aerie_base.specs.expressions.Arithmetic.{value_kind}
use Rattle.aerie_base.specs.models.Cells.{read_kind}
use Rattle.aerie_base.specs.models.ValidModel.{valid_model}
use Rattle.aerie_base.specs.Ranges.{number_limit}
use Rattle.aerie_base.specs.Paths.{root, daemon_root, child_path}
use Rattle.aerie_base.specs.plans.OfModel.{IsPlanOf}
use Rattle.effect_cells.specs.Cells.{AreInRange}
use Rattle.effect_cells.specs.Solvable.{may_be_solved}
use Rattle.run_data.specs.declared.tasks.BodyId.{BodyId}
use Rattle.run_data.specs.declared.tasks.BodyId.TheVariants as body
use Rattle.run_data.specs.declared.tasks.TaskState.{TaskState}
use Rattle.run_data.specs.Endings.{with_result}
use Rattle.run_data.specs.Fresh.{SimulationState, IsReached}
use Rattle.run_data.specs.Jobs.{is_state_of, AreCellsOf, IsJobOf}
use Rattle.run_data.specs.Numbers.{HasNumber}
use Rattle.run_data.specs.Tasks.{TaskPhase, anchored, ready, delayed, waiting, calling, over, Task, Table, task_at, ready_jobs}
use Rattle.run_data.specs.Transitions.{more}
use Rattle.run_data.specs.laws.OrderedTables.{IsOrderedTable}
use Rattle.run_data.specs.laws.Orders.{EachOf, EachTwo, AreApart}
use Rattle.run_data.specs.laws.Results.{IsUnderWay}
use Rattle.run_data.specs.laws.SmallSteps.{HasNumberIfAny, IsJobWithin}
use Rattle.run_data.specs.laws.Typing.{body_result}

-- ---- one task

-- a state from which a task may go on is of the model and under way, the numbers of its locals in range
pub record MayGoOn (model : Parts) (state : TaskState) : Type 0 where
  pub of_model : IsTrue (is_state_of model state)
  pub under_way : IsUnderWay model state
  pub numbers : EachOf HasNumber state.locals

-- a result is of the type that a body declares, its number in range
abbrev pub IsResultOf : Parts → BodyId → Option Value → Type 0
IsResultOf model kind result = (option_map value_kind result ≡ body_result model kind) × HasNumberIfAny result

-- a task runs this body, or has ended with such a result as it declares
abbrev pub IsTaskOf : Parts → BodyId → TaskPhase → Type 0
IsTaskOf model kind (anchored to edge start state) = state.kind ≡ kind
IsTaskOf model kind (ready state) = state.kind ≡ kind
IsTaskOf model kind (delayed until state) = state.kind ≡ kind
IsTaskOf model kind (waiting condition state) = state.kind ≡ kind
IsTaskOf model kind (calling child into state) = state.kind ≡ kind
IsTaskOf model kind (over result) = IsResultOf model kind result

-- At this path stands a caller's callee, which runs an activity type of the model; with any result that the type declares
-- the caller may go on.
pub record HasCallee (model : Parts) (table : Table) (path : List ℕ) (into : Option ℕ) (state : TaskState) : Type 0 where
  pub kind : ℕ
  pub callee : Task
  pub there : task_at table path ≡ Some callee
  pub declared : IsTaskOf model (body.Activity kind) callee.phase
  pub goes_on : (result : Option Value) → IsResultOf model (body.Activity kind) result → MayGoOn model (with_result into result state)

-- a task may go on from its state, and the wake time of a waiting one can be computed
abbrev pub IsPhaseOf : Parts → Table → List ℕ → TaskPhase → Type 0
IsPhaseOf model table path (anchored to edge start state) = MayGoOn model state
IsPhaseOf model table path (ready state) = MayGoOn model state
IsPhaseOf model table path (delayed until state) = MayGoOn model state
IsPhaseOf model table path (waiting condition state) =
    MayGoOn model state × IsTrue (may_be_solved (read_kind model.cells) condition)
IsPhaseOf model table path (calling child into state) = HasCallee model table (child_path path child) into state
IsPhaseOf model table path (over result) = Unit {0}

-- a task is that of a directive or of a daemon, or a task of the table made it
pub data ComesFrom (table : Table) (path : List ℕ) : Type 0 where
  directive : (id : ℕ) → path ≡ root id → ComesFrom table path
  daemon : (number : ℕ) → path ≡ daemon_root number → ComesFrom table path
  maker : (parent : List ℕ) (number : ℕ) (task : Task) → path ≡ child_path parent number → task_at table parent ≡ Some task → number < task.made →
      ComesFrom table path

-- ---- the table

pub record IsTableOf (model : Parts) (table : Table) : Type 0 where
  pub order : IsOrderedTable table
  pub phases : (path : List ℕ) (task : Task) → task_at table path ≡ Some task → IsPhaseOf model table path task.phase
  pub makers : (path : List ℕ) (task : Task) → task_at table path ≡ Some task → ComesFrom table path

-- ---- where the simulation is

pub record IsStateOf (model : Parts) (plan : Plan) (bound : ℕ) (at : SimulationState) : Type 0 where
  pub table : IsTableOf model at.table
  pub cells : AreCellsOf model at.cells
  pub in_range : AreInRange at.cells
  -- its ready tasks may be stepped, in whatever order
  pub jobs : All (λ job. IsJobOf model job.1) (ready_jobs at.cells at.table)
  pub within : EachOf (λ job. IsJobWithin model number_limit job.1) (ready_jobs at.cells at.table)
  pub apart : EachTwo AreApart (ready_jobs at.cells at.table)
  pub spent : at.spent ≤ bound
  -- each child was paid for
  pub made : (path : List ℕ) (task : Task) → task_at at.table path ≡ Some task → task.made ≤ at.spent
  pub time : at.time < plan.duration

-- wherever the simulation of a plan of a valid model comes, all that stands is of the model
abbrev pub ReachedIsOfModel : Type 0
ReachedIsOfModel =
    (model : Parts) (plan : Plan) (bound : ℕ) (at : SimulationState) → IsTrue (valid_model model) → IsPlanOf model plan →
    IsReached model plan bound (more at) → IsStateOf model plan bound at
