-- A task of an activity type that has a result ends with a value of its type.
use Rattle.std.specs.Prelude.{◌≡◌, ℕ, IsTrue, List, [], Some, None, option_map}
use Rattle.aerie_base.specs.declared.values.Value.{Value}
use Rattle.aerie_base.specs.declared.models.model.Parts.{Parts}
use Rattle.aerie_base.specs.expressions.Arithmetic.{value_kind}
use Rattle.aerie_base.specs.models.ValidModel.{valid_model}
use Rattle.aerie_base.specs.statements.Places.{left}
use Rattle.run_data.specs.declared.tasks.BodyId.{BodyId}
use Rattle.run_data.specs.declared.tasks.TaskState.{TaskState}
use Rattle.run_data.specs.declared.jobs.Job.{Job}
use Rattle.run_data.specs.declared.frames.Status.{Status}
use Rattle.run_data.specs.declared.frames.Status.TheVariants.{Delayed, Waiting, Calling, Done, Faulted}
use Rattle.run_data.specs.StepStates.{StepState}
use Rattle.run_data.specs.Frames.{job_step}
use Rattle.run_data.specs.Jobs.{IsJobOf}
use Rattle.run_data.specs.TaskStates.{body_of, activity_begun}
use Rattle.run_data.specs.laws.Typing.{body_result}

-- nothing is left at the place of a task only where its body has no result
abbrev pub IsUnderWay : Parts → TaskState → Type 0
IsUnderWay model state = left (body_of model state.kind) state.at ≡ [] → body_result model state.kind ≡ None

-- a body ends with a value of the type of its result, or with none where it has no result, and goes on under way
abbrev pub EndsAsDeclared : Parts → BodyId → Status → Type 0
EndsAsDeclared model kind (Delayed by next) = IsUnderWay model next
EndsAsDeclared model kind (Waiting condition next) = IsUnderWay model next
EndsAsDeclared model kind (Calling into next) = IsUnderWay model next
EndsAsDeclared model kind (Done result) = option_map value_kind result ≡ body_result model kind
EndsAsDeclared model kind (Faulted fault) = Unit {0}

abbrev pub ResultsFit : Type 0
ResultsFit =
    (model : Parts) (budget : ℕ) (job : Job) (status : Status) (so_far : StepState) → IsTrue (valid_model model) → IsJobOf model job →
    IsUnderWay model job.state → job_step model budget job ≡ Some (status, so_far) → EndsAsDeclared model job.state.kind status

-- an activity begins under way
abbrev pub BeginsUnderWay : Type 0
BeginsUnderWay =
    (model : Parts) (kind : ℕ) (arguments : List Value) → IsTrue (valid_model model) → IsUnderWay model (activity_begun model kind arguments)
