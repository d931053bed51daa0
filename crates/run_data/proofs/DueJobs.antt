-- The steps that are due after a generation are jobs of the model where those of the generation are.
use Rattle.std.proofs.Common.{◌≡◌, ℕ, zero, suc, ◌+◌, ◌*◌, ◌≤◌, IsTrue, List, [], ◌∷◌, ◌++◌, map, Some, None, refl, subst, arith}
use Rattle.aerie_base.specs.Ranges.{number_limit}
use Rattle.aerie_base.specs.declared.models.model.Parts.{Parts}
use Rattle.aerie_base.specs.models.ValidModel.{valid_model}
use Rattle.run_data.specs.declared.jobs.Job.{Job}
use Rattle.run_data.specs.Frames.{job_step}
use Rattle.run_data.specs.Steps.{Stepped}
use Rattle.run_data.specs.TaskStates.{body_of}
use Rattle.run_data.specs.laws.Generations.{PendingStep, Generation, child_jobs, step_generation, beside_generation, generation}
use Rattle.run_data.specs.laws.Orders.{EachOf}
use Rattle.run_data.specs.laws.SmallSteps.{IsJobWithin, PendingStepsAreJobs}
use Rattle.run_data.proofs.Budgets.{cost_is_within}
use Rattle.run_data.proofs.ChildJobs.{children_are_jobs}

abbrev NextEach : (PendingStep → Type 0) → Generation → Type 0
NextEach P None = Unit {0}
NextEach P (Some here) = EachOf P here.1

each_append : (P : PendingStep → Type 0) (first second : List PendingStep) → EachOf P first → EachOf P second → EachOf P (first ++ second)
each_append P [] second h k = k
each_append P (due ∷ rest) second h k = (h.0, each_append P rest second h.1 k)

next_beside : (P : PendingStep → Type 0) (here rest : Generation) → NextEach P here → NextEach P rest → NextEach P (beside_generation here rest)
next_beside P None rest h k = tt
next_beside P (Some here) None h k = tt
next_beside P (Some here) (Some rest) h k = each_append P here.1 rest.1 h k

module _ (model : Parts) (valid : IsTrue (valid_model model)) (budget most : ℕ) where
  abbrev IsNext : PendingStep → Type 0
  IsNext due = IsJobWithin model (most + budget * number_limit) due.job

  within_more : (less : ℕ) (job : Job) → less ≤ budget → IsJobWithin model (most + less * number_limit) job → IsJobWithin model (most + budget * number_limit) job
  within_more less job few is =
      record { state = is.state; view = is.view; locals = is.locals; within = λ cell state there. (let near = is.within cell state there in omega arith) }

  all_due : (room cost : ℕ) (jobs : List Job) → cost ≤ budget → EachOf (IsJobWithin model (most + cost * number_limit)) jobs →
      EachOf IsNext (map (λ child. record { room = room; number = 0; job = child }) jobs)
  all_due room cost [] few all = tt
  all_due room cost (job ∷ rest) few all = (within_more cost job few all.0, all_due room cost rest few all.1)

  one_next : (due : PendingStep) → IsJobWithin model most due.job → NextEach IsNext (step_generation model due (job_step model budget due.job))
  one_next due is = by (job_step model budget due.job) refl due.room
    where
      by : (stepped : Stepped) → job_step model budget due.job ≡ stepped → (room : ℕ) → NextEach IsNext (step_generation model (record { room = room; number = due.number; job = due.job }) stepped)
      by None e room = tt
      by (Some (status, so_far)) e zero = tt
      by (Some (status, so_far)) e (suc room) =
          all_due room so_far.cost (child_jobs model due.job.path due.number due.job.view so_far.items)
          (cost_is_within (body_of model due.job.state.kind) due.job.state due.job.view budget status so_far e)
          (children_are_jobs model budget most due.number due.job status so_far valid is e)

  all_next : (dues : List PendingStep) → EachOf (λ due. IsJobWithin model most due.job) dues → NextEach IsNext (generation model budget dues)
  all_next [] all = tt
  all_next (due ∷ rest) all =
      next_beside IsNext (step_generation model due (job_step model budget due.job)) (generation model budget rest) (one_next due all.0) (all_next rest all.1)

pub dues_are_jobs : PendingStepsAreJobs
dues_are_jobs model budget most dues frames next valid all e =
    subst (NextEach (IsNext model valid budget most)) e (all_next model valid budget most dues all)
