-- When the tasks of directives that differ may be exchanged in the middle of a simulation.
use Rattle.std.specs.Prelude.{◌≡◌, ℕ, Bool, true, false, List, Option, Some, None}
use Rattle.aerie_base.specs.declared.models.model.Parts.{Parts}
use Rattle.aerie_base.specs.declared.plans.Anchor.{Anchor}
use Rattle.aerie_base.specs.declared.plans.Directive.{Directive}
use Rattle.aerie_base.specs.declared.plans.Plan.{Plan}
use Rattle.aerie_base.specs.Paths.{root}
use Rattle.run_data.specs.Fresh.{SimulationState, IsReached}
use Rattle.run_data.specs.Tasks.{Task, Table, task_at}
use Rattle.run_data.specs.Transitions.{more}
use Rattle.run_data.specs.laws.LateDifferences.{is_of_differing}
use Rattle.run_data.specs.laws.LiveParts.{live}
use Rattle.parting.specs.Exchanges.{exchanged}
use Rattle.live_tasks.specs.PlannedTasks.{IsPlannedBy}

-- a directive that has not begun: it is delayed or anchored
pub record IsYetToBegin (path : List ℕ) (task : Task) : Type 0 where
  pub id : ℕ
  pub path_is : path ≡ root id
  pub begun : task.begun ≡ false
  pub anchor : Option Anchor
  pub phase : IsPlannedBy anchor task.phase

-- none of the directives that differ has begun, and so there is no task under one of them
abbrev pub HaveNotBegun : (ℕ → Bool) → Table → Type 0
HaveNotBegun differs table = (path : List ℕ) (task : Task) → is_of_differing differs path ≡ true → task_at table path ≡ Some task → IsYetToBegin path task

-- where the directive is one of those that differ, it follows none
abbrev pub HasNoAnchor : (ℕ → Bool) → Directive → Type 0
HasNoAnchor differs directive = differs directive.id ≡ true → directive.anchor ≡ None

-- with the directives that differ exchanged the tasks are what is live in a state that the new plan's simulation reaches
pub record MayExchange (differs : ℕ → Bool) (model : Parts) (plan : Plan) (table : Table) : Type 0 where
  pub bound : ℕ
  pub at : SimulationState
  pub is_reached : IsReached model plan bound (more at)
  pub is_live : live at.table ≡ exchanged differs model plan table
