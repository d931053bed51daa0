-- Every step that was run is a valid record, and a valid record is the step of each job that it fits.
use Rattle.std.specs.Prelude.{◌≡◌, ◌↔◌, ℕ, ◌<◌, ◌≤◌, IsTrue, List, Some, None, length}
use Rattle.aerie_base.specs.declared.models.model.Parts.{Parts}
use Rattle.effect_cells.specs.declared.effects.CellState.{CellState}
use Rattle.run_data.specs.declared.jobs.Job.{Job}
use Rattle.run_data.specs.declared.frames.Record.{Record}
use Rattle.run_data.specs.declared.frames.Status.{Status}
use Rattle.run_data.specs.declared.tasks.TaskState.{TaskState}
use Rattle.run_data.specs.StepStates.{StepState}
use Rattle.run_data.specs.Frames.{job_step, frame_of}
use Rattle.run_data.specs.Jobs.{AreCellsOf}
use Rattle.run_data.specs.Records.{Agrees, IsValid, record_of, stepped_record, same_task, same_reads}

-- The record of a frame is valid for a model with as many cells as its job's view has: nothing else is asked of the view, since
-- a record is judged by the views of the model that agree with its reads.
abbrev pub FramesAreValid : Type 0
FramesAreValid =
    (model : Parts) (budget : ℕ) (job : Job) (status : Status) (so_far : StepState) → length job.view ≡ length model.cells →
    job_step model budget job ≡ Some (status, so_far) → IsValid model (record_of (frame_of job status so_far))

-- A valid record from the state of a job, with whose reads the job's view agrees, is the step of that job, where the step
-- may cost as much.
abbrev pub ValidRecordsFit : Type 0
ValidRecordsFit =
    (model : Parts) (budget : ℕ) (job : Job) (of : Record) → IsValid model of → of.before ≡ job.state → AreCellsOf model job.view →
    Agrees job.view of.reads → of.cost ≤ budget → stepped_record job.state (job_step model budget job) ≡ Some of

-- where the step may not cost as much, it costs more than it may
abbrev pub ValidRecordsPass : Type 0
ValidRecordsPass =
    (model : Parts) (budget : ℕ) (job : Job) (of : Record) → IsValid model of → of.before ≡ job.state → AreCellsOf model job.view →
    Agrees job.view of.reads → budget < of.cost → job_step model budget job ≡ None

-- the tests by which stored steps are found pass exactly for equal states, and for equal reads
abbrev pub SameTasksAreEqual : Type 0
SameTasksAreEqual = (state other : TaskState) → IsTrue (same_task state other) ↔ (state ≡ other)

abbrev pub SameReadsAreEqual : Type 0
SameReadsAreEqual = (reads others : List (ℕ × CellState)) → IsTrue (same_reads reads others) ↔ (reads ≡ others)
