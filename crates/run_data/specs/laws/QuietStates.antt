-- Wherever a simulation comes, no caller's callee has ended and no anchor has come: those that may go on have gone on.
use Rattle.std.specs.Prelude.{ℕ}
use Rattle.aerie_base.specs.declared.models.model.Parts.{Parts}
use Rattle.aerie_base.specs.declared.plans.Plan.{Plan}
use Rattle.aerie_base.specs.plans.OfModel.{IsPlanOf}
use Rattle.run_data.specs.Fresh.{SimulationState, IsReached}
use Rattle.run_data.specs.Transitions.{more}
use Rattle.run_data.specs.laws.GoingOn.{AllQuiet}

abbrev pub ReachedIsQuiet : Type 0
ReachedIsQuiet =
    (model : Parts) (plan : Plan) (bound : ℕ) (at : SimulationState) → IsPlanOf model plan → IsReached model plan bound (more at) →
    AllQuiet at.table at.table
