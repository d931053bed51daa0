-- The frame of a step is a valid record.
use Rattle.std.proofs.Common.{◌≡◌, ℕ, Option, Some, None, refl, ap, subst}
use Rattle.aerie_base.specs.declared.models.model.Parts.{Parts}
use Rattle.run_data.specs.declared.jobs.Job.{Job}
use Rattle.run_data.specs.TaskFrames.{Frame}
use Rattle.run_data.specs.Frames.{job_step, framed, job_frame}
use Rattle.run_data.specs.Jobs.{AreCellsOf}
use Rattle.run_data.specs.Records.{IsValid, record_of}
use Rattle.run_data.specs.Steps.{Stepped}
use Rattle.run_data.specs.laws.ValidRecords.{FramesAreValid}

abbrev or_else : Frame → Option Frame → Frame
or_else frame None = frame
or_else frame (Some other) = other

-- the frame of a job whose view is of the model
pub frames_are_valid : FramesAreValid → (model : Parts) (fuel : ℕ) (job : Job) (frame : Frame) → AreCellsOf model job.view →
    job_frame model fuel job ≡ Some frame → IsValid model (record_of frame)
frames_are_valid law model fuel job frame cells h = by_step (job_step model fuel job) refl h
  where
    by_step : (step : Stepped) → job_step model fuel job ≡ step → framed job step ≡ Some frame → IsValid model (record_of frame)
    by_step None e k = absurd (cc)
    by_step (Some (status, so_far)) e k =
        subst (λ (f : Frame). IsValid model (record_of f)) (ap (or_else frame) k) (law model fuel job status so_far cells.count e)
