-- What a wave of jobs gives: the frame of each, without its children.
use Rattle.std.specs.Prelude.{◌≡◌, ℕ, ◌+◌, ◌≤◌, min, List, [], ◌∷◌, Option, Some, None, nat_lt, if◌then◌else◌}
use Rattle.aerie_base.specs.declared.models.model.Parts.{Parts}
use Rattle.run_data.specs.declared.jobs.Job.{Job}
use Rattle.run_data.specs.TaskFrames.{Frame}
use Rattle.run_data.specs.declared.frames.Record.{Record}
use Rattle.run_data.specs.declared.steppers.Wave.{Wave}
use Rattle.run_data.specs.declared.steppers.Wave.TheVariants.{Frames, Spent}
use Rattle.run_data.specs.Batches.{cost_of}
use Rattle.run_data.specs.Frames.{frame_of, job_step}
use Rattle.run_data.specs.Records.{unmatched}
use Rattle.run_data.specs.Steps.{Stepped}

abbrev pub with_step : Job → Stepped → Option (List Frame) → Option (List Frame)
with_step job None rest = None
with_step job (Some (status, so_far)) None = None
with_step job (Some (status, so_far)) (Some frames) = Some (frame_of job status so_far ∷ frames)

-- the frames of jobs in their order, each step of which may cost so much
abbrev pub frames_of : Parts → ℕ → List Job → Option (List Frame)
frames_of model fuel [] = Some []
frames_of model fuel (job ∷ rest) = with_step job (job_step model fuel job) (frames_of model fuel rest)

abbrev pub unless_spent : ℕ → Option (List Frame) → Wave
unless_spent fuel None = Spent
unless_spent fuel (Some frames) = if nat_lt fuel (cost_of frames) then Spent else Frames frames

-- the frames of the jobs, or `Spent` exactly where their costs together pass the fuel: a step that alone passes it
-- passes it together with the others
abbrev pub wave_of : Parts → ℕ → List Job → Wave
wave_of model fuel jobs = unless_spent fuel (frames_of model fuel jobs)

-- at most what no record fits of the frames that were given
abbrev pub unmatched_in : Wave → List Record → ℕ
unmatched_in (Frames frames) records = unmatched frames records
unmatched_in Spent records = 0

-- where frames are given, a count rose by at most their unmatched cost
abbrev pub IsFrugal : Wave → List Record → ℕ → ℕ → Type 0
IsFrugal (Frames frames) records before after = after ≤ before + unmatched frames records
IsFrugal Spent records before after = Unit {0}

-- the last value of a count of 64 bits
abbrev pub last_count : ℕ
last_count = 18_446_744_073_709_551_615

-- a count that rose as another did, or stands at its last value where that is more
abbrev pub RoseAlike : ℕ → ℕ → ℕ → ℕ → Type 0
RoseAlike count steps count_after steps_after =
    (steps ≤ steps_after) × ((rise : ℕ) → steps_after ≡ steps + rise → count_after ≡ min (count + rise) last_count)
