-- Settled states, and the instants of a run as those of settled states.
use Rattle.std.specs.Prelude.{◌≡◌, ℕ, List, []}
use Rattle.aerie_base.specs.declared.models.model.Parts.{Parts}
use Rattle.aerie_base.specs.declared.plans.Plan.{Plan}
use Rattle.run_data.specs.declared.runs.Instant.{Instant}
use Rattle.run_data.specs.declared.runs.Run.{Run}
use Rattle.run_data.specs.Fresh.{SimulationState, instant_at, IsReached, IsFresh}
use Rattle.run_data.specs.Tasks.{on_each, ready_jobs, woken}
use Rattle.run_data.specs.Transitions.{more}
use Rattle.run_data.specs.laws.FreshRuns.{EachAfter}

-- no task is ready, nor does any condition hold for which one waits
pub record IsSettled (at : SimulationState) : Type 0 where
  pub none_ready : ready_jobs at.cells at.table ≡ []
  pub none_wakes : ready_jobs at.cells (on_each (woken at.cells) at.table) ≡ []

-- an instant which is that of a settled state that is reached after these instants
pub record IsSettledInstant (model : Parts) (plan : Plan) (bound : ℕ) (before : List Instant) (instant : Instant) : Type 0 where
  pub at : SimulationState
  pub is_reached : IsReached model plan bound (more at)
  pub is_settled : IsSettled at
  pub instants_before : at.instants ≡ before
  pub is_instant : instant_at at ≡ instant

-- each instant of a fresh run is
abbrev pub InstantsAreSettled : Type 0
InstantsAreSettled =
    (model : Parts) (plan : Plan) (bound : ℕ) (run : Run) → IsFresh model plan bound run →
    EachAfter (IsSettledInstant model plan bound) [] run.instants
