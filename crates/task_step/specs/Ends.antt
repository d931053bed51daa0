-- What an end of a step means.
use Rattle.std.specs.Prelude.{◌≡◌, ℕ, ◌+◌, ℤ, List}
use Rattle.aerie_base.specs.declared.values.Value.{Value}
use Rattle.run_data.specs.declared.frames.Status.{Status}
use Rattle.run_data.specs.declared.frames.Status.TheVariants as status
use Rattle.run_data.specs.declared.tasks.BodyId.{BodyId}
use Rattle.run_data.specs.declared.tasks.TaskState.{TaskState}
use Rattle.run_data.specs.declared.jobs.Job.{Job}
use Rattle.run_data.specs.Frames.{frame_of}
use Rattle.run_data.specs.StepStates.{StepState}
use Rattle.run_data.specs.Steps.{state_behind, delay_of}
use Rattle.run_data.specs.TaskFrames.{Frame}
use Rattle.task_step.specs.declared.ends.End.{End}
use Rattle.task_step.specs.declared.ends.End.TheVariants.{Delayed, Waiting, Calling, Done, Faulted}

-- the state from which a task goes on behind a place of a body, with these locals
abbrev pub later_state : BodyId → ℕ → List Value → TaskState
later_state kind at locals = record { kind = kind; at = at + 1; locals = locals }

-- the status of a step that ends so, with the state from which the task goes on where it does
abbrev pub status_from : End → TaskState → Status
status_from (Delayed by) next = status.Delayed by next
status_from (Waiting condition) next = status.Waiting condition next
status_from (Calling into) next = status.Calling into next
status_from (Done result) next = status.Done result
status_from (Faulted fault) next = status.Faulted fault

-- the same of a step that ends so at a place of a body
abbrev pub status_of : End → BodyId → ℕ → StepState → Status
status_of end kind at so_far = status_from end (state_behind kind at so_far)

-- the frame of a job whose step ends so at a place of its body
abbrev pub ended_frame : Job → End → ℕ → StepState → Frame
ended_frame job end at so_far = frame_of job (status_of end job.state.kind at so_far) so_far

-- this is how a delay by so much ends a step, at whatever place of a body
abbrev pub IsDelayBy : ℤ → End → Type 0
IsDelayBy by end = (kind : BodyId) (at : ℕ) (so_far : StepState) → status_of end kind at so_far ≡ delay_of by (state_behind kind at so_far)
