-- Which tasks of a settled state have not begun: those of directives, each of which waits as it is planned until its anchor came.
use Rattle.std.specs.Prelude.{◌≡◌, ◌⊎◌, ℕ, true, false, IsTrue, List, Some, slice_get}
use Rattle.aerie_base.specs.declared.models.model.Parts.{Parts}
use Rattle.aerie_base.specs.declared.plans.Anchor.{Anchor}
use Rattle.aerie_base.specs.declared.plans.Directive.{Directive}
use Rattle.aerie_base.specs.declared.plans.Plan.{Plan}
use Rattle.aerie_base.specs.models.ValidModel.{valid_model}
use Rattle.aerie_base.specs.Paths.{root}
use Rattle.aerie_base.specs.plans.OfModel.{IsPlanOf}
use Rattle.run_data.specs.Endings.{has_come}
use Rattle.run_data.specs.Fresh.{SimulationState, IsReached}
use Rattle.run_data.specs.TaskStates.{activity_begun}
use Rattle.run_data.specs.Tasks.{TaskPhase, anchored, Table, task_at, Task}
use Rattle.run_data.specs.Transitions.{more}
use Rattle.run_data.specs.laws.SettledInstants.{IsSettled}

-- a directive of a plan
abbrev pub IsInPlan : Plan → Directive → Type 0
IsInPlan plan directive = (place : ℕ) × (slice_get plan.directives place ≡ Some directive)

-- a directive that is anchored waits for its anchor, or that has come
abbrev pub WaitsForAnchor : Parts → Table → Directive → TaskPhase → Type 0
WaitsForAnchor model table directive phase =
    (anchor : Anchor) → directive.anchor ≡ Some anchor →
    (phase ≡ anchored anchor.to anchor.edge directive.start (activity_begun model directive.kind directive.arguments))
    ⊎ (has_come table anchor.to anchor.edge ≡ true)

-- this is the task of a directive of the plan, which waits so
pub record IsUnbegunDirective (model : Parts) (plan : Plan) (table : Table) (path : List ℕ) (phase : TaskPhase) : Type 0 where
  pub directive : Directive
  pub in_plan : IsInPlan plan directive
  pub is : path ≡ root directive.id
  pub waits : WaitsForAnchor model table directive phase

-- so is each task of a settled state that has not begun
abbrev pub UnbegunAreDirectives : Type 0
UnbegunAreDirectives =
    (model : Parts) (plan : Plan) (bound : ℕ) (at : SimulationState) → IsTrue (valid_model model) → IsPlanOf model plan →
    IsReached model plan bound (more at) → IsSettled at →
    (path : List ℕ) (task : Task) → task_at at.table path ≡ Some task → task.begun ≡ false → IsUnbegunDirective model plan at.table path task.phase
