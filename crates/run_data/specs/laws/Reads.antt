-- A step depends on its state and on the cells that it read, and on nothing else.
use Rattle.std.specs.Prelude.{◌≡◌, ℕ, List, length, Some}
use Rattle.aerie_base.specs.declared.models.model.Parts.{Parts}
use Rattle.aerie_base.specs.declared.statements.Stmt.{Stmt}
use Rattle.effect_cells.specs.declared.effects.CellState.{CellState}
use Rattle.run_data.specs.declared.tasks.TaskState.{TaskState}
use Rattle.run_data.specs.declared.jobs.Job.{Job}
use Rattle.run_data.specs.declared.frames.Status.{Status}
use Rattle.run_data.specs.StepStates.{StepState}
use Rattle.run_data.specs.Records.{Agrees}
use Rattle.run_data.specs.Steps.{step_of}
use Rattle.run_data.specs.Frames.{read_from, job_step, frame_of}

-- the same state of a step in another view
abbrev pub seeing : List CellState → StepState → StepState
seeing other so_far = record so_far { view = other }

-- In another view of as many cells, in which the cells that a step read are as they were, the step ends in the same way
-- with the same effects and children, the same locals, the same cells read and the same cost.
abbrev pub StepDependsOnReads : Type 0
StepDependsOnReads =
    (body : List Stmt) (state : TaskState) (view other : List CellState) (budget : ℕ) (status : Status) (so_far : StepState) →
    step_of body state view budget ≡ Some (status, so_far) →
    length other ≡ length view →
    Agrees other (read_from 0 so_far.read_flags so_far.view) →
    step_of body state other budget ≡ Some (status, seeing other so_far)

-- Two jobs of one path and one state, in views of as many cells, have the same frame where the cells that the frame of
-- the one has as read are in the view of the other as they were.
abbrev pub FrameDependsOnReads : Type 0
FrameDependsOnReads =
    (model : Parts) (budget : ℕ) (path : List ℕ) (state : TaskState) (view other : List CellState) (status : Status) (so_far : StepState) →
    let job : Job = record { path = path; state = state; view = view } in
    let again : Job = record { path = path; state = state; view = other } in
    job_step model budget job ≡ Some (status, so_far) →
    length other ≡ length view →
    Agrees other (frame_of job status so_far).reads →
    (job_step model budget again ≡ Some (status, seeing other so_far))
    × (frame_of again status (seeing other so_far) ≡ frame_of job status so_far)
