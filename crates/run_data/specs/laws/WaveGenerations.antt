-- A generation by the frames that a wave of its jobs gives.
use Rattle.std.specs.Prelude.{◌≡◌, ℕ, List, [], ◌∷◌, map, Option, Some, None}
use Rattle.aerie_base.specs.declared.models.model.Parts.{Parts}
use Rattle.run_data.specs.TaskFrames.{Frame}
use Rattle.run_data.specs.Waves.{frames_of}
use Rattle.run_data.specs.laws.Generations.{PendingStep, Generation, child_jobs, with_children, beside_generation, generation}

-- a generation by the frame of each step: its children are due by what the frame says that it did
abbrev pub generation_of : Parts → List PendingStep → List Frame → Generation
generation_of model [] frames = Some ([], [])
generation_of model (due ∷ rest) [] = None
generation_of model (due ∷ rest) (frame ∷ frames) =
    beside_generation (with_children due.room due.job.path frame (child_jobs model due.job.path due.number due.job.view frame.items))
    (generation_of model rest frames)

abbrev pub generation_by : Parts → List PendingStep → Option (List Frame) → Generation
generation_by model dues None = None
generation_by model dues (Some frames) = generation_of model dues frames

-- the frames of its jobs in their order are all that a generation needs
abbrev pub GenerationByFrames : Type 0
GenerationByFrames =
    (model : Parts) (budget : ℕ) (dues : List PendingStep) →
    generation model budget dues ≡ generation_by model dues (frames_of model budget (map (λ due. due.job) dues))
