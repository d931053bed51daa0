-- What the frames of a simulation cost.
use Rattle.std.specs.Prelude.{◌≡◌, ℕ, ◌+◌, List, [], ◌∷◌}
use Rattle.aerie_base.specs.declared.models.model.Parts.{Parts}
use Rattle.aerie_base.specs.declared.plans.Plan.{Plan}
use Rattle.run_data.specs.TaskFrames.{Frame}
use Rattle.run_data.specs.declared.runs.Instant.{Instant}
use Rattle.run_data.specs.Batches.{cost_of}
use Rattle.run_data.specs.Fresh.{SimulationState, IsReached}
use Rattle.run_data.specs.Transitions.{more}

abbrev pub cost_of_batches : List (List Frame) → ℕ
cost_of_batches [] = 0
cost_of_batches (frames ∷ rest) = cost_of frames + cost_of_batches rest

abbrev pub cost_of_instants : List Instant → ℕ
cost_of_instants [] = 0
cost_of_instants (instant ∷ rest) = cost_of_batches instant.batches + cost_of_instants rest

-- what is spent is what the frames so far cost
abbrev pub SpentIsCost : Type 0
SpentIsCost =
    (model : Parts) (plan : Plan) (bound : ℕ) (at : SimulationState) → IsReached model plan bound (more at) →
    at.spent ≡ cost_of_instants at.instants + cost_of_batches at.batches
