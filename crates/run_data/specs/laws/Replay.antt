-- The cells that are read off the instants of a run are those that its simulation had.
use Rattle.std.specs.Prelude.{◌≡◌, ℕ, ◌-◌, ◌≤◌}
use Rattle.aerie_base.specs.declared.models.model.Parts.{Parts}
use Rattle.aerie_base.specs.declared.plans.Plan.{Plan}
use Rattle.effect_cells.specs.Cells.{initial, passed}
use Rattle.run_data.specs.Transitions.{more}
use Rattle.run_data.specs.Fresh.{SimulationState, IsReached, settled}
use Rattle.run_data.specs.Values.{cells_from}

-- Wherever a run stands, the instants up to that time, once it is settled, give its cells at that time, and as they
-- evolve from then on.
abbrev pub CellsAreReplayed : Type 0
CellsAreReplayed =
    (model : Parts) (plan : Plan) (bound : ℕ) (at : SimulationState) → IsReached model plan bound (more at) → (t : ℕ) → at.time ≤ t →
    cells_from 0 (initial model) (settled model plan bound at) t ≡ passed at.cells (t - at.time)
