-- What a step of a valid model gives is in range and little, and each effect is one of its cell.
use Rattle.std.specs.Prelude.{◌≡◌, ℕ, ◌+◌, ◌*◌, ◌<◌, ◌≤◌, true, IsTrue, List, Option, Some, None, length}
use Rattle.aerie_base.specs.Ranges.{number_limit}
use Rattle.aerie_base.specs.declared.values.Value.{Value}
use Rattle.aerie_base.specs.declared.models.model.Parts.{Parts}
use Rattle.aerie_base.specs.models.ValidModel.{valid_model}
use Rattle.effect_cells.specs.declared.effects.CellState.{CellState}
use Rattle.effect_cells.specs.Cells.{accepts}
use Rattle.run_data.specs.declared.jobs.Job.{Job}
use Rattle.run_data.specs.TaskFrames.{Frame}
use Rattle.run_data.specs.declared.frames.Item.{Item}
use Rattle.run_data.specs.declared.frames.Item.TheVariants as item
use Rattle.run_data.specs.declared.frames.Status.{Status}
use Rattle.run_data.specs.declared.frames.Status.TheVariants.{Delayed, Waiting, Calling, Done, Faulted}
use Rattle.run_data.specs.Frames.{job_step}
use Rattle.run_data.specs.Jobs.{is_state_of, AreCellsOf, IsJobOf, view_limit}
use Rattle.run_data.specs.Magnitudes.{effect_magnitude, AreWithin}
use Rattle.run_data.specs.Numbers.{HasNumber}
use Rattle.run_data.specs.StepStates.{StepState}
use Rattle.run_data.specs.laws.Generations.{PendingStep, child_jobs, generation}
use Rattle.run_data.specs.laws.Orders.{EachOf}

-- ---- one step

-- an effect is on one of the cells and of its kind, with numbers of a model; the arguments of a child are in range
abbrev pub IsSmallItem : List CellState → Item → Type 0
IsSmallItem cells (item.Emit cell effect) = (accepts cells cell effect ≡ true) × (effect_magnitude effect ≤ number_limit)
IsSmallItem cells (item.Child kind arguments) = EachOf HasNumber arguments

abbrev pub HasNumberIfAny : Option Value → Type 0
HasNumberIfAny None = Unit {0}
HasNumberIfAny (Some value) = HasNumber value

-- what the body returned, and the locals with which the task goes on, are in range
abbrev pub EndsInRange : Status → Type 0
EndsInRange (Delayed by next) = EachOf HasNumber next.locals
EndsInRange (Waiting condition next) = EachOf HasNumber next.locals
EndsInRange (Calling into next) = EachOf HasNumber next.locals
EndsInRange (Done result) = HasNumberIfAny result
EndsInRange (Faulted fault) = Unit {0}

pub record IsSmallStep (view : List CellState) (status : Status) (so_far : StepState) : Type 0 where
  pub items : EachOf (IsSmallItem view) so_far.items
  -- there are no more effects and children than statements were run
  pub few : length so_far.items ≤ so_far.cost
  pub end : EndsInRange status

-- a state and a view of the model, the locals in range, and no number of the view further from 0 than this
pub record IsJobWithin (model : Parts) (most : ℕ) (job : Job) : Type 0 where
  pub state : IsTrue (is_state_of model job.state)
  pub view : AreCellsOf model job.view
  pub locals : EachOf HasNumber job.state.locals
  pub within : AreWithin most job.view

-- such a job of a valid model has a small step
abbrev pub StepsAreSmall : Type 0
StepsAreSmall =
    (model : Parts) (budget most : ℕ) (job : Job) (status : Status) (so_far : StepState) → IsTrue (valid_model model) → IsJobWithin model most job →
    job_step model budget job ≡ Some (status, so_far) → IsSmallStep job.view status so_far

-- ---- its children

-- Its children are such jobs: each sees the view with the effects before it, which move a number by at most 10^18 for each
-- statement that was run.
abbrev pub ChildrenAreJobs : Type 0
ChildrenAreJobs =
    (model : Parts) (budget most number : ℕ) (job : Job) (status : Status) (so_far : StepState) → IsTrue (valid_model model) → IsJobWithin model most job →
    job_step model budget job ≡ Some (status, so_far) →
    EachOf (IsJobWithin model (most + so_far.cost * number_limit)) (child_jobs model job.path number job.view so_far.items)

-- such a job may be stepped, where the numbers of its view are below 2^100
abbrev pub WithinIsJob : Type 0
WithinIsJob = (model : Parts) (most : ℕ) (job : Job) → IsJobWithin model most job → most < view_limit → IsJobOf model job

-- ---- generations

-- So a generation of such jobs, each of which may cost so much, is followed by one of such jobs.
abbrev pub PendingStepsAreJobs : Type 0
PendingStepsAreJobs =
    (model : Parts) (budget most : ℕ) (dues : List PendingStep) (frames : List Frame) (next : List PendingStep) → IsTrue (valid_model model) →
    EachOf (λ due. IsJobWithin model most due.job) dues →
    generation model budget dues ≡ Some (frames, next) →
    EachOf (λ due. IsJobWithin model (most + budget * number_limit) due.job) next
