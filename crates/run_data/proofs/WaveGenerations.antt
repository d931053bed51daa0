-- A generation by the frames that a wave of its jobs gives.
use Rattle.std.proofs.Common.{◌≡◌, List, [], ◌∷◌, map, Option, Some, None, refl, ap, ◌∙◌}
use Rattle.aerie_base.specs.declared.models.model.Parts.{Parts}
use Rattle.run_data.specs.TaskFrames.{Frame}
use Rattle.run_data.specs.Frames.{job_step}
use Rattle.run_data.specs.Steps.{Stepped}
use Rattle.run_data.specs.Waves.{with_step, frames_of}
use Rattle.run_data.specs.laws.Generations.{PendingStep, Generation, step_generation, beside_generation}
use Rattle.run_data.specs.laws.WaveGenerations.{generation_by, GenerationByFrames}

beside_none : (first : Generation) → beside_generation first None ≡ None
beside_none None = refl
beside_none (Some first) = refl

one_more : (model : Parts) (due : PendingStep) (rest : List PendingStep) (stepped : Stepped) (frames : Option (List Frame)) →
    beside_generation (step_generation model due stepped) (generation_by model rest frames) ≡ generation_by model (due ∷ rest) (with_step due.job stepped frames)
one_more model due rest None frames = refl
one_more model due rest (Some (status, so_far)) None = beside_none (step_generation model due (Some (status, so_far)))
one_more model due rest (Some (status, so_far)) (Some frames) = refl

pub generation_by_frames : GenerationByFrames
generation_by_frames model budget [] = refl
generation_by_frames model budget (due ∷ rest) =
    ap (beside_generation (step_generation model due (job_step model budget due.job))) (generation_by_frames model budget rest)
    ∙ one_more model due rest (job_step model budget due.job) (frames_of model budget (map (λ (d : PendingStep). d.job) rest))
