-- What a batch of a reached state leaves of the live tasks.
use Rattle.std.specs.Prelude.{◌≡◌, ℕ, IsTrue, List}
use Rattle.aerie_base.specs.declared.models.model.Parts.{Parts}
use Rattle.aerie_base.specs.declared.plans.Plan.{Plan}
use Rattle.aerie_base.specs.models.ValidModel.{valid_model}
use Rattle.aerie_base.specs.plans.OfModel.{IsPlanOf}
use Rattle.effect_cells.specs.declared.effects.CellState.{CellState}
use Rattle.run_data.specs.TaskFrames.{Frame}
use Rattle.run_data.specs.Batches.{batch, committed}
use Rattle.run_data.specs.Endings.{after_batch}
use Rattle.run_data.specs.Fresh.{SimulationState, IsReached}
use Rattle.run_data.specs.Tasks.{ready_jobs}
use Rattle.run_data.specs.Transitions.{more}
use Rattle.run_data.specs.laws.BatchFrames.{AreFramesOf}
use Rattle.run_data.specs.laws.LiveParts.{live}

-- The frames of a batch of a reached state are those of its live part, and the live part after the batch is that of the live
-- part after it.
abbrev pub LivePartGoesOn : Type 0
LivePartGoesOn =
    (model : Parts) (plan : Plan) (bound : ℕ) (at : SimulationState) (cells : List CellState) (touched : List ℕ) (frames : List Frame) →
    IsTrue (valid_model model) → IsPlanOf model plan → IsReached model plan bound (more at) →
    batch model bound at.spent at.cells (ready_jobs at.cells at.table) ≡ committed cells touched frames →
    AreFramesOf (live at.table) frames × (live (after_batch at.time frames (live at.table)) ≡ live (after_batch at.time frames at.table))
