-- What stands for a directive that has not begun once an instant is settled: what the plan says, and when its anchor came.
use Rattle.std.specs.Prelude.{◌≡◌, ◌⊎◌, ℕ, ◌+◌, true, false, Option, Some, None, slice_get}
use Rattle.aerie_base.specs.declared.models.model.Parts.{Parts}
use Rattle.aerie_base.specs.declared.plans.Anchor.{Anchor}
use Rattle.aerie_base.specs.declared.plans.Directive.{Directive}
use Rattle.aerie_base.specs.declared.plans.Edge.{Edge}
use Rattle.aerie_base.specs.declared.plans.Plan.{Plan}
use Rattle.aerie_base.specs.Paths.{root}
use Rattle.aerie_base.specs.plans.OfModel.{IsPlanOf}
use Rattle.run_data.specs.declared.tasks.TaskState.{TaskState}
use Rattle.run_data.specs.Endings.{has_come}
use Rattle.run_data.specs.Fresh.{SimulationState, IsReached, next_state}
use Rattle.run_data.specs.TaskStates.{activity_begun}
use Rattle.run_data.specs.Tasks.{TaskPhase, anchored, delayed, Task, task_at}
use Rattle.run_data.specs.Transitions.{more}
use Rattle.run_data.specs.laws.SettledInstants.{IsSettled}
use Rattle.run_data.specs.laws.TracedTasks.{frames_so_far, traced}

module _ (model : Parts) (plan : Plan) (bound : ℕ) where
  -- an edge comes with a step at this time
  pub record ComesAt (to : ℕ) (edge : Edge) (time : ℕ) : Type 0 where
    pub before : SimulationState
    pub after : SimulationState
    pub is_reached : IsReached model plan bound (more before)
    pub step : next_state model plan bound before ≡ more after
    pub at_time : before.time ≡ time
    pub not_yet : has_come before.table to edge ≡ false
    pub comes : has_come after.table to edge ≡ true

  -- a directive waits for its start, or for its anchor, or since that came for so much later
  abbrev pub WaitsAsPlanned : SimulationState → Option Anchor → ℕ → TaskState → TaskPhase → Type 0
  WaitsAsPlanned at None start state phase = phase ≡ delayed start state
  WaitsAsPlanned at (Some anchor) start state phase =
      ((phase ≡ anchored anchor.to anchor.edge start state) × (has_come at.table anchor.to anchor.edge ≡ false))
      ⊎ ((time : ℕ) × ComesAt anchor.to anchor.edge time × (phase ≡ delayed (time + start) state))

  pub record HasNotBegun (at : SimulationState) (directive : Directive) : Type 0 where
    pub task : Task
    pub there : task_at at.table (root directive.id) ≡ Some task
    pub made : task.made ≡ 0
    pub begun : task.begun ≡ false
    pub phase : WaitsAsPlanned at directive.anchor directive.start (activity_begun model directive.kind directive.arguments) task.phase

-- in a settled state a directive without frames has not begun, and waits as it is planned
abbrev pub UnbegunAreAsPlanned : Type 0
UnbegunAreAsPlanned =
    (model : Parts) (plan : Plan) (bound : ℕ) (at : SimulationState) → IsPlanOf model plan → IsReached model plan bound (more at) → IsSettled at →
    (place : ℕ) (directive : Directive) → slice_get plan.directives place ≡ Some directive →
    traced (root directive.id) (frames_so_far at) None ≡ None → HasNotBegun model plan bound at directive
