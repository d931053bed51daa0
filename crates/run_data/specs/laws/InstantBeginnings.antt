-- How an instant begins, before its first batch.
use Rattle.std.specs.Prelude.{◌≡◌, ℕ, []}
use Rattle.aerie_base.specs.declared.models.model.Parts.{Parts}
use Rattle.aerie_base.specs.declared.plans.Plan.{Plan}
use Rattle.effect_cells.specs.Cells.{initial}
use Rattle.run_data.specs.Fresh.{SimulationState, IsReached}
use Rattle.run_data.specs.Transitions.{more}
use Rattle.run_data.specs.Values.{cells_from}

-- where no batch stands yet, no cell is touched, and the cells are those to which the instants before bring them
abbrev pub InstantsBeginUntouched : Type 0
InstantsBeginUntouched =
    (model : Parts) (plan : Plan) (bound : ℕ) (at : SimulationState) → IsReached model plan bound (more at) → at.batches ≡ [] →
    (at.touched ≡ []) × (at.cells ≡ cells_from 0 (initial model) at.instants at.time)
