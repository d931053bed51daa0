-- What is live after the directives that differ are exchanged: an engine that holds live tasks alone may exchange them there.
use Rattle.std.specs.Prelude.{◌≡◌, ℕ, Bool, IsTrue}
use Rattle.aerie_base.specs.declared.models.model.Parts.{Parts}
use Rattle.aerie_base.specs.declared.plans.Plan.{Plan}
use Rattle.aerie_base.specs.models.ValidModel.{valid_model}
use Rattle.aerie_base.specs.plans.OfModel.{IsPlanOf}
use Rattle.run_data.specs.Fresh.{SimulationState, IsReached}
use Rattle.run_data.specs.Transitions.{more}
use Rattle.run_data.specs.laws.LiveParts.{live}
use Rattle.run_data.specs.laws.PrunedStates.{pruned}
use Rattle.parting.specs.Exchanges.{exchanged, exchanged_state}

-- the live part of a reached state's table, exchanged, is the live part of the exchanged table
abbrev pub LiveIsExchanged : Type 0
LiveIsExchanged =
    (differs : ℕ → Bool) (model : Parts) (plan old_plan : Plan) (old_bound : ℕ) (other : SimulationState) → IsTrue (valid_model model) → IsPlanOf model old_plan →
    IsReached model old_plan old_bound (more other) →
    live (exchanged differs model plan other.table) ≡ exchanged differs model plan (live other.table)

-- so a reached state may be exchanged as it stands without what has ended
abbrev pub PrunedIsExchanged : Type 0
PrunedIsExchanged =
    (differs : ℕ → Bool) (model : Parts) (plan old_plan : Plan) (old_bound : ℕ) (other : SimulationState) → IsTrue (valid_model model) → IsPlanOf model old_plan →
    IsReached model old_plan old_bound (more other) →
    pruned (exchanged_state differs model plan other) ≡ exchanged_state differs model plan (pruned other)
