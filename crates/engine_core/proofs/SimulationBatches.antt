-- A file of lemmas: what it proves need not be read to trust a clause.
--
-- The batch of a simulation on course.
use Rattle.std.proofs.Common.{◌≡◌, ℕ, ◌≤◌, IsTrue, List, [], Option, Some, None, refl, sym, ap, ◌∙◌, subst}
use Rattle.aerie_base.specs.declared.models.model.Parts.{Parts}
use Rattle.aerie_base.specs.declared.plans.Plan.{Plan}
use Rattle.aerie_base.specs.models.ValidModel.{valid_model}
use Rattle.effect_cells.specs.declared.effects.CellState.{CellState}
use Rattle.run_data.specs.declared.frames.Record.{Record}
use Rattle.run_data.specs.declared.jobs.Job.{Job}
use Rattle.run_data.specs.declared.runs.Instant.{Instant}
use Rattle.run_data.specs.declared.runs.Outcome.TheVariants.{Completed}
use Rattle.run_data.specs.declared.runs.Run.{Run}
use Rattle.run_data.specs.Batches.{batch}
use Rattle.run_data.specs.Fresh.{SimulationState, after_outcome}
use Rattle.run_data.specs.Tasks.{ready_jobs}
use Rattle.run_data.specs.Transitions.{Next, more}
use Rattle.run_data.specs.laws.NumberedTasks.{OrderIsDistinct, OrderIsItself, FoundByNumber}
use Rattle.run_data.specs.laws.PrunedStates.{pruned_point}
use Rattle.run_data.specs.laws.ReachedStates.{ReachedIsOfModel}
use Rattle.run_data.specs.laws.RestOfRuns.{completed_run}
use Rattle.live_tasks.specs.Reached.{LivePartGoesOn}
use Rattle.live_tasks.specs.InStep.{IsInStep}
use Rattle.engine_core.specs.BatchEnds.{batch_as, IsFrugalEnd, HasFewLooks, AreReadyJobs}
use Rattle.engine_core.specs.EngineStates.{IsReachedPruned, EngineState, after_transition, jobs_in, time_in, batches_in, instants_in, spent_in, PaysForBatch, LooksForBatch}
use Rattle.engine_core.specs.Simulations.{state_of, point_by, point_in, engine_state_of, AreTasksAt, AreTasksBefore, IsOnCourse, StandsAt, IsTransitionFrom, MayTakeEnd, TouchesAll, IsAfterEnd, PaysFrom, LooksFrom}
use Rattle.engine_core.specs.declared.batch_ends.BatchEnd.{BatchEnd}
use Rattle.engine_core.specs.declared.batch_ends.BatchEnd.TheVariants.{Limit, Failed, Committed}
use Rattle.engine_core.specs.declared.history.History.{History}
use Rattle.engine_core.specs.declared.present.Present.{Present}
use Rattle.engine_core.specs.declared.simulation.RunEnd.{RunEnd}
use Rattle.engine_core.specs.declared.simulation.Request.{Request}
use Rattle.engine_core.specs.declared.simulation.Simulation.{Simulation}
use Rattle.engine_core.specs.PrunedPoints.{HasWhole, has_whole, spent_within, jobs_are_ready, frames_are, few_are_made}
use Rattle.engine_core.specs.ReadyBatches.{next_is_batch, same_outcome, pays_batch, looks_batch}
use Rattle.engine_core.proofs.TouchedBatches.{batch_agrees, batch_in_order}

-- where there is a job the simulation goes on
pub still_open : (request : Request) (history : History) (present : Present) (ending : Option RunEnd) → (jobs_in (point_by request history present ending) ≡ [] → ⊥) → ending ≡ None
still_open request history present None some = refl
still_open request history present (Some ending) some = absurd (some refl)

pub time_there : (simulation : Simulation) → (jobs_in (point_in simulation) ≡ [] → ⊥) → simulation.present.time ≡ time_in (point_in simulation)
time_there simulation some =
    sym (ap (λ (o : Option RunEnd). time_in (point_by simulation.request simulation.history simulation.present o))
    (still_open simulation.request simulation.history simulation.present simulation.ending some))

pub batches_there : (simulation : Simulation) → (jobs_in (point_in simulation) ≡ [] → ⊥) → simulation.history.batches ≡ batches_in (point_in simulation)
batches_there simulation some =
    sym (ap (λ (o : Option RunEnd). batches_in (point_by simulation.request simulation.history simulation.present o))
    (still_open simulation.request simulation.history simulation.present simulation.ending some))

pub spent_there : (simulation : Simulation) → (jobs_in (point_in simulation) ≡ [] → ⊥) → simulation.present.spent ≡ spent_in (point_in simulation)
spent_there simulation some =
    sym (ap (λ (o : Option RunEnd). spent_in (point_by simulation.request simulation.history simulation.present o))
    (still_open simulation.request simulation.history simulation.present simulation.ending some))

pub instants_there : (simulation : Simulation) → simulation.history.instants ≡ instants_in (point_in simulation)
instants_there simulation = by simulation.ending
  where
    by : (ending : Option RunEnd) → simulation.history.instants ≡ instants_in (point_by simulation.request simulation.history simulation.present ending)
    by None = refl
    by (Some ending) = refl

pub ended_run : (plan : Plan) (bound reach : ℕ) (instants others : List Instant) → reach ≡ plan.duration → instants ≡ others →
    record { plan = plan; bound = bound; instants = instants; reach = reach; outcome = Completed } ≡ completed_run plan bound others
ended_run plan bound reach instants others until same = λ i. record { plan = plan; bound = bound; instants = same i; reach = until i; outcome = Completed }

-- the cells that a committed batch did not touch are as they were
touches_all : (model : Parts) (bound spent : ℕ) (cells next : List CellState) (jobs : List (ℕ × Job)) (end : BatchEnd) →
    batch_as end next ≡ batch model bound spent cells jobs → TouchesAll end cells next
touches_all model bound spent cells next jobs Limit is = tt
touches_all model bound spent cells next jobs (Failed who fault) is = tt
touches_all model bound spent cells next jobs (Committed frames touched now) is = batch_agrees model bound spent cells next jobs touched frames is

-- a simulation with other cells
abbrev pub with_cells : Simulation → List CellState → Simulation
with_cells simulation cells = record simulation { present = record simulation.present { cells = cells } }

module _ (of_model : ReachedIsOfModel) (model : Parts) (simulation : Simulation) (valid : IsTrue (valid_model model)) (course : IsOnCourse model simulation)
    (jobs : List (ℕ × Job)) (is : jobs ≡ jobs_in (point_in simulation)) (some : jobs ≡ [] → ⊥) where
  abbrev at : SimulationState
  at = state_of simulation.history simulation.present

  pub goes_on : simulation.ending ≡ None
  goes_on = still_open simulation.request simulation.history simulation.present simulation.ending (λ none. some (is ∙ none))

  point_is : ◌≡◌ {A = Next SimulationState Run} (point_in simulation) (more at)
  point_is = ap (point_by simulation.request simulation.history simulation.present) goes_on

  tasks : AreTasksAt simulation.request.plan.duration simulation.present
  tasks = subst (AreTasksBefore simulation.request.plan.duration simulation.present) goes_on course.tasks

  pub in_step : IsInStep simulation.present.tasks
  in_step = tasks.in_step

  from : HasWhole model simulation.request.plan simulation.request.bound at
  from = has_whole model simulation.request.plan simulation.request.bound at
      (subst (IsReachedPruned model simulation.request.plan simulation.request.bound) point_is course.reached)

  jobs_is : jobs ≡ ready_jobs at.cells at.table
  jobs_is = is ∙ ap jobs_in point_is

  some_ready : ready_jobs at.cells at.table ≡ [] → ⊥
  some_ready none = some (jobs_is ∙ none)

  pub spent_so_far : simulation.present.spent ≤ simulation.request.bound
  spent_so_far = spent_within of_model model simulation.request.plan simulation.request.bound valid course.plan at from

  pub jobs_ready : OrderIsDistinct → OrderIsItself → FoundByNumber → AreReadyJobs model simulation.present.spent simulation.present.cells jobs
  jobs_ready distinct itself found =
      subst (AreReadyJobs model simulation.present.spent simulation.present.cells) (sym jobs_is)
      (jobs_are_ready of_model model simulation.request.plan simulation.request.bound valid course.plan at from distinct itself found)

  module _ (cells : List CellState) (end : BatchEnd)
      (ends : batch_as end cells ≡ batch model simulation.request.bound simulation.present.spent simulation.present.cells jobs) where
    outcome : batch_as end cells ≡ batch model simulation.request.bound at.spent at.cells (ready_jobs at.cells at.table)
    outcome = ends ∙ ap (batch model simulation.request.bound simulation.present.spent simulation.present.cells) jobs_is

    pub may_end : LivePartGoesOn → MayTakeEnd end (record simulation.present { cells = cells })
    may_end lives = by end outcome
      where
        by : (end : BatchEnd) → batch_as end cells ≡ batch model simulation.request.bound at.spent at.cells (ready_jobs at.cells at.table) → MayTakeEnd end (record simulation.present { cells = cells })
        by Limit e = tt
        by (Failed who fault) e = tt
        by (Committed frames touched spent) e = record {
          order = batch_in_order model simulation.request.bound at.spent at.cells cells (ready_jobs at.cells at.table) touched frames e;
          are = frames_are of_model model simulation.request.plan simulation.request.bound valid course.plan at from lives cells touched frames (sym e);
          few = few_are_made of_model model simulation.request.plan simulation.request.bound valid course.plan at from lives cells touched frames (sym e) course.bound some_ready;
        }

    -- where it stands after the end it stands after the transition
    pub stands_after : (after : Simulation) → IsAfterEnd (with_cells simulation cells) end after → IsTransitionFrom model simulation after
    stands_after after is_after =
        subst (λ (p : Next SimulationState Run). StandsAt simulation.request p after)
        (ap pruned_point (same_outcome model simulation.request.plan simulation.request.bound at cells end
        ∙ ap (after_outcome model simulation.request.plan simulation.request.bound at) outcome
        ∙ sym (next_is_batch model simulation.request.plan simulation.request.bound at some_ready))
        ∙ sym (ap (after_transition model simulation.request.plan simulation.request.bound) point_is))
        (is_after model simulation.present.cells tasks.kept
        (touches_all model simulation.request.bound simulation.present.spent simulation.present.cells cells jobs end ends))

    state_is : ◌≡◌ {A = EngineState} (record { model = model; plan = simulation.request.plan; bound = simulation.request.bound; point = more at }) (engine_state_of model simulation)
    state_is = λ i. record { model = model; plan = simulation.request.plan; bound = simulation.request.bound; point = sym point_is i }

    pub pays_after : (records : List Record) (before after : ℕ) → IsFrugalEnd end records before after → PaysFrom model simulation records before after
    pays_after records before after frugal =
        subst (λ (s : EngineState). PaysForBatch s records before after) state_is
        (pays_batch model simulation.request.plan simulation.request.bound at cells end outcome records before after frugal)

    pub looks_after : (before after : ℕ) → HasFewLooks end before after → LooksFrom model simulation before after
    looks_after before after few =
        subst (λ (s : EngineState). LooksForBatch s before after) state_is
        (looks_batch model simulation.request.plan simulation.request.bound at cells end outcome before after few)
