-- A frame that fits a job is that of its step: its effects may be put on the view one after another, and its children may be looked for.
use Rattle.std.proofs.Common.{◌≡◌, ℕ, suc, ◌+◌, ◌*◌, ◌<◌, ◌≤◌, IsTrue, List, [], ◌∷◌, length, Some, None, refl, ap, subst, arith}
use Rattle.aerie_base.specs.Paths.{child_limit}
use Rattle.aerie_base.specs.Ranges.{number_limit, step_limit}
use Rattle.aerie_base.specs.declared.models.model.Parts.{Parts}
use Rattle.aerie_base.specs.models.ValidModel.{valid_model}
use Rattle.run_data.specs.TaskFrames.{Frame}
use Rattle.run_data.specs.declared.frames.Item.{Item}
use Rattle.run_data.specs.declared.frames.Status.{Status}
use Rattle.run_data.specs.declared.jobs.Job.{Job}
use Rattle.run_data.specs.Frames.{job_step, frame_of}
use Rattle.run_data.specs.Jobs.{view_limit}
use Rattle.run_data.specs.StepStates.{StepState}
use Rattle.run_data.specs.Steps.{Stepped}
use Rattle.run_data.specs.TaskStates.{body_of}
use Rattle.run_data.specs.Waves.{with_step, frames_of}
use Rattle.run_data.specs.laws.Budgets.{CostIsWithin}
use Rattle.run_data.specs.laws.FittingFrames.{FitsJob, FittingWave}
use Rattle.run_data.specs.laws.Generations.{child_jobs}
use Rattle.run_data.specs.laws.SmallSteps.{IsJobWithin, StepsAreSmall, ChildrenAreJobs, WithinIsJob}
use Rattle.engine_core.specs.BatchViews.{CanEmitAll}
use Rattle.engine_core.specs.ChildEffects.{can_emit_all}
use Rattle.fitting.specs.Fitting.{reach_with, MaySee, MaySeeChildren}
use Rattle.fitting.specs.DecidedJobs.{each_weaker}

pub record IsStepOf (model : Parts) (bound : ℕ) (job : Job) (frame : Frame) : Type 0 where
  pub status : Status
  pub so_far : StepState
  pub step : job_step model bound job ≡ Some (status, so_far)
  pub is : frame_of job status so_far ≡ frame

stepped_by : (model : Parts) (bound : ℕ) (job : Job) (frame : Frame) → frames_of model bound (job ∷ []) ≡ Some (frame ∷ []) → IsStepOf model bound job frame
stepped_by model bound job frame e = by (job_step model bound job) refl e
  where
    by : (stepped : Stepped) → job_step model bound job ≡ stepped → with_step job stepped (Some []) ≡ Some (frame ∷ []) → IsStepOf model bound job frame
    by None x e = absurd (cc)
    by (Some (status, so_far)) x e = (let same : frame_of job status so_far ≡ frame = cc in record { status = status; so_far = so_far; step = x; is = same })

reach_is_less : (room : ℕ) → reach_with room < view_limit
reach_is_less room = omega arith

pub reach_is_least : (room : ℕ) → number_limit ≤ reach_with room
reach_is_least room = omega arith

one_room_less : (room : ℕ) → suc room ≤ child_limit → reach_with (suc room) + step_limit * number_limit ≡ reach_with room
one_room_less room less = omega (arith, less)

within_more : (model : Parts) (most more_ : ℕ) → most ≤ more_ → (job : Job) → IsJobWithin model most job → IsJobWithin model more_ job
within_more model most more_ less job is = record {
  state = is.state;
  view = is.view;
  locals = is.locals;
  within = λ cell state there. (let near = is.within cell state there in omega (arith, near, less));
}

pub may_see : (model : Parts) (room : ℕ) (job : Job) → IsJobWithin model number_limit job → MaySee model room job
may_see model room job is = within_more model number_limit (reach_with room) (reach_is_least room) job is

-- a child whose path has room for one number less
pub child_may : (model : Parts) (room : ℕ) (child : Job) → suc room ≤ child_limit → MaySeeChildren model (suc room) (child ∷ []) → MaySee model room child
child_may model room child less may = subst (λ n. IsJobWithin model n child) (one_room_less room less) may.0

pub fits_step : FittingWave → WithinIsJob → (model : Parts) (bound room : ℕ) (job : Job) (frame : Frame) → MaySee model room job → FitsJob model bound job frame → IsStepOf model bound job frame
fits_step wave is_job model bound room job frame may fits =
    stepped_by model bound job frame (wave model bound (job ∷ []) (frame ∷ []) (is_job model (reach_with room) job may (reach_is_less room), tt) (fits, tt))

-- what such a frame does
pub record MayGoDown (model : Parts) (room number : ℕ) (job : Job) (items : List Item) : Type 0 where
  pub effects : CanEmitAll job.view items
  pub few : length items ≤ step_limit
  pub children : MaySeeChildren model room (child_jobs model job.path number job.view items)

pub may_go_down : StepsAreSmall → CostIsWithin → ChildrenAreJobs → (model : Parts) (bound room number : ℕ) (job : Job) (frame : Frame) → IsTrue (valid_model model) → bound ≤ step_limit →
    MaySee model room job → IsStepOf model bound job frame → MayGoDown model room number job frame.items
may_go_down small within children model bound room number job frame valid few may step =
    let made = small model bound (reach_with room) job step.status step.so_far valid may step.step in
    let cost = within (body_of model job.state.kind) job.state job.view bound step.status step.so_far step.step in
    let reach = reach_is_less room in
    let items : step.so_far.items ≡ frame.items = ap (λ (one : Frame). one.items) step.is in
    subst (MayGoDown model room number job) items (record {
      effects = can_emit_all job.view job.view (reach_with room) step.so_far.items refl may.within made.items (omega (arith, made.few, cost, few, reach));
      few = omega (arith, made.few, cost, few);
      children =
          each_weaker (IsJobWithin model (reach_with room + step.so_far.cost * number_limit)) (IsJobWithin model (reach_with room + step_limit * number_limit))
          (within_more model (reach_with room + step.so_far.cost * number_limit) (reach_with room + step_limit * number_limit) (omega (arith, cost, few)))
          (child_jobs model job.path number job.view step.so_far.items)
          (children model bound (reach_with room) number job step.status step.so_far valid may step.step);
    })
