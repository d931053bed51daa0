-- The effects of a step of a valid model are small enough to be put on the view of its job one after another.
use Rattle.std.proofs.Common.{◌≡◌, ℕ, zero, suc, ◌+◌, ◌*◌, ◌<◌, ◌≤◌, IsTrue, List, [], ◌∷◌, length, Option, Some, None, slice_get, refl, sym, ap, ◌∙◌, subst, arith}
use Rattle.aerie_base.specs.Ranges.{number_limit, step_limit}
use Rattle.aerie_base.specs.declared.models.model.Parts.{Parts}
use Rattle.aerie_base.specs.models.ValidModel.{valid_model}
use Rattle.effect_cells.specs.Sums.{sum_limit}
use Rattle.run_data.specs.TaskFrames.{Frame}
use Rattle.run_data.specs.declared.frames.Item.{Item}
use Rattle.run_data.specs.declared.frames.Status.{Status}
use Rattle.run_data.specs.declared.jobs.Job.{Job}
use Rattle.run_data.specs.Frames.{job_step, frame_of}
use Rattle.run_data.specs.StepStates.{StepState}
use Rattle.run_data.specs.Steps.{Stepped}
use Rattle.run_data.specs.TaskStates.{body_of}
use Rattle.run_data.specs.Waves.{with_step, frames_of}
use Rattle.run_data.specs.laws.Budgets.{CostIsWithin}
use Rattle.run_data.specs.laws.Orders.{EachOf}
use Rattle.run_data.specs.laws.SmallSteps.{IsJobWithin, StepsAreSmall}
use Rattle.engine_core.specs.BatchDues.{AreSeenSteps}
use Rattle.engine_core.specs.BatchGenerations.{jobs_of}
use Rattle.engine_core.specs.BatchViews.{CanEmitAll}
use Rattle.engine_core.specs.ChildEffects.{can_emit_all}

-- ---- the frames of jobs

-- the frame of a job is that of its step
record IsStepOf (model : Parts) (budget : ℕ) (job : ℕ × Job) (frame : Frame) : Type 0 where
  status : Status
  so_far : StepState
  step : job_step model budget job.1 ≡ Some (status, so_far)
  is : frame_of job.1 status so_far ≡ frame

step_at : (model : Parts) (budget : ℕ) (jobs : List (ℕ × Job)) (frames : List Frame) → frames_of model budget (jobs_of jobs) ≡ Some frames → (at : ℕ) (job : ℕ × Job) (frame : Frame) →
    slice_get jobs at ≡ Some job → slice_get frames at ≡ Some frame → IsStepOf model budget job frame
step_at model budget [] frames e at job frame j f = absurd (cc)
step_at model budget (first ∷ rest) frames e at job frame j f = by at (job_step model budget first.1) (frames_of model budget (jobs_of rest)) refl refl e j f (step_at model budget rest)
  where
    by : (at : ℕ) (stepped : Stepped) (others : Option (List Frame)) → job_step model budget first.1 ≡ stepped → frames_of model budget (jobs_of rest) ≡ others → with_step first.1 stepped others ≡ Some frames →
        slice_get (first ∷ rest) at ≡ Some job → slice_get frames at ≡ Some frame →
        ((fs : List Frame) → frames_of model budget (jobs_of rest) ≡ Some fs → (i : ℕ) (q : ℕ × Job) (one : Frame) → slice_get rest i ≡ Some q → slice_get fs i ≡ Some one → IsStepOf model budget q one) →
        IsStepOf model budget job frame
    by at None others x y e j f more = absurd (cc)
    by at (Some (status, so)) None x y e j f more = absurd (cc)
    by zero (Some (status, so)) (Some fs) x y e j f more =
        let same : frame_of first.1 status so ∷ fs ≡ frames = cc in
        let one : first ≡ job = cc in
        let here : Some (frame_of first.1 status so) ≡ Some frame = ap (λ (l : List Frame). slice_get l 0) same ∙ f in
        let other : frame_of first.1 status so ≡ frame = cc in
        record {
          status = status;
          so_far = so;
          step = ap (λ (q : ℕ × Job). job_step model budget q.1) (sym one) ∙ x;
          is = ap (λ (q : ℕ × Job). frame_of q.1 status so) (sym one) ∙ other;
        }
    by (suc at) (Some (status, so)) (Some fs) x y e j f more =
        let same : frame_of first.1 status so ∷ fs ≡ frames = cc in
        more fs y at job frame j (ap (λ (l : List Frame). slice_get l (suc at)) same ∙ f)

pub each_at : {A : Type 0} (P : A → Type 0) (items : List A) (at : ℕ) (one : A) → EachOf P items → slice_get items at ≡ Some one → P one
each_at P [] at one h e = absurd (cc)
each_at P (first ∷ rest) zero one h e = (let same : first ≡ one = cc in subst P same h.0)
each_at P (first ∷ rest) (suc at) one h e = each_at P rest at one h.1 e

pub seen_steps : StepsAreSmall → CostIsWithin → (model : Parts) (bound most : ℕ) (jobs : List (ℕ × Job)) → IsTrue (valid_model model) → bound ≤ step_limit → most + step_limit * number_limit < sum_limit →
    EachOf (λ job. IsJobWithin model most job.1) jobs → EachOf (λ job. job.0 ≤ step_limit) jobs → (frames : List Frame) → frames_of model bound (jobs_of jobs) ≡ Some frames → AreSeenSteps jobs frames
seen_steps small within model bound most jobs valid few less are numbers frames e at job frame j f =
    let step = step_at model bound jobs frames e at job frame j f in
    let job_is = each_at (λ q. IsJobWithin model most q.1) jobs at job are j in
    let made = small model bound most job.1 step.status step.so_far valid job_is step.step in
    let cost = within (body_of model job.1.state.kind) job.1.state job.1.view bound step.status step.so_far step.step in
    record {
      effects =
          subst (λ (l : List Item). CanEmitAll job.1.view l) (ap (λ (one : Frame). one.items) step.is)
          (can_emit_all job.1.view job.1.view most step.so_far.items refl job_is.within made.items (omega (arith, made.few, cost, few, less)));
      few = (let many : length step.so_far.items ≡ length frame.items = ap (λ (one : Frame). length one.items) step.is in omega (arith, many, made.few, cost, few));
      number = each_at (λ q. q.0 ≤ step_limit) jobs at job numbers j;
    }
