-- A simulation that holds only what is live: with all that has ended left out after each step it goes on as before.
use Rattle.std.specs.Prelude.{◌≡◌, ℕ, IsTrue}
use Rattle.aerie_base.specs.declared.models.model.Parts.{Parts}
use Rattle.aerie_base.specs.declared.plans.Plan.{Plan}
use Rattle.aerie_base.specs.models.ValidModel.{valid_model}
use Rattle.aerie_base.specs.plans.OfModel.{IsPlanOf}
use Rattle.run_data.specs.declared.runs.Run.{Run}
use Rattle.run_data.specs.Fresh.{SimulationState, IsReached, next_state}
use Rattle.run_data.specs.Transitions.{Next, more, finished}
use Rattle.run_data.specs.laws.LiveParts.{live}

-- a state without what has ended
abbrev pub pruned : SimulationState → SimulationState
pruned at = record at { table = live at.table }

abbrev pub pruned_point : Next SimulationState Run → Next SimulationState Run
pruned_point (more at) = more (pruned at)
pruned_point (finished run) = finished run

-- The step of the live part of a reached state is that of the whole, in its live part; where the run is finished, it is the
-- same run.
abbrev pub PrunedStep : Type 0
PrunedStep =
    (model : Parts) (plan : Plan) (bound : ℕ) (at : SimulationState) → IsTrue (valid_model model) → IsPlanOf model plan →
    IsReached model plan bound (more at) →
    pruned_point (next_state model plan bound (pruned at)) ≡ pruned_point (next_state model plan bound at)
