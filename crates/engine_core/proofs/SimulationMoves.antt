-- A file of lemmas: what it proves need not be read to trust a clause.
--
-- A simulation on course where no task is ready.
use Rattle.std.proofs.Common.{◌≡◌, ℕ, ◌<◌, true, IsTrue, List, [], Option, Some, None, refl, sym, ap, ◌∙◌, subst}
use Rattle.aerie_base.specs.declared.models.model.Parts.{Parts}
use Rattle.aerie_base.specs.models.ValidModel.{valid_model}
use Rattle.effect_cells.specs.Cells.{AreInRange}
use Rattle.effect_cells.specs.Reads.{kind_on}
use Rattle.run_data.specs.declared.jobs.Job.{Job}
use Rattle.run_data.specs.declared.runs.Run.{Run}
use Rattle.run_data.specs.Fresh.{SimulationState, moved, below, least_due}
use Rattle.run_data.specs.Tasks.{on_each, woken, ready_jobs}
use Rattle.run_data.specs.Transitions.{Next, more}
use Rattle.run_data.specs.laws.LiveParts.{live}
use Rattle.run_data.specs.laws.ModelSteps.{WaitsGoByCells}
use Rattle.run_data.specs.laws.PrunedStates.{pruned_point, PrunedStep}
use Rattle.run_data.specs.laws.ReachedStates.{ReachedIsOfModel}
use Rattle.run_data.specs.laws.Weights.{WeightFalls}
use Rattle.live_tasks.specs.InStep.{table_in, IsInStep}
use Rattle.live_tasks.specs.Waking.{AreFound, AreKept, AreSolvable, KeepsWakes}
use Rattle.live_tasks.specs.declared.tasks.LiveTasks.{LiveTasks}
use Rattle.engine_core.specs.EngineStates.{IsReachedPruned, after_transition, jobs_in}
use Rattle.engine_core.specs.Passing.{GoesOnFrom, IsOpen, point_of_next}
use Rattle.engine_core.specs.Simulations.{state_of, point_by, point_in, is_idle_at, AreTasksAt, AreTasksBefore, AreTasksIn, IsOnCourse, StandsAt, IsTransitionFrom}
use Rattle.engine_core.specs.declared.history.History.{History}
use Rattle.engine_core.specs.declared.present.Present.{Present}
use Rattle.engine_core.specs.declared.simulation.RunEnd.{RunEnd}
use Rattle.engine_core.specs.declared.simulation.Request.{Request}
use Rattle.engine_core.specs.declared.simulation.Simulation.{Simulation}
use Rattle.engine_core.proofs.PassingTime.{woken_none, some_woken, none_woken, moves_on}
use Rattle.engine_core.specs.PrunedPoints.{HasWhole, has_whole, before_end, in_range, as_many, solvable}
use Rattle.engine_core.proofs.Transitions.{none_are}

idle_open : (request : Request) (history : History) (present : Present) (ending : Option RunEnd) → is_idle_at (point_by request history present ending) ≡ true → ending ≡ None
idle_open request history present None idle = refl
idle_open request history present (Some ending) idle = absurd (cc)

-- a simulation with other tasks
abbrev pub with_tasks : Simulation → LiveTasks → Simulation
with_tasks simulation tasks = record simulation { present = record simulation.present { tasks = tasks } }

-- ---- the ready tasks are put in order

pub stands_ready : (simulation : Simulation) (later : LiveTasks) → simulation.ending ≡ None → AreTasksIn simulation → table_in later ≡ table_in simulation.present.tasks → IsInStep later →
    KeepsWakes simulation.present.tasks later → StandsAt simulation.request (point_in simulation) (with_tasks simulation later)
stands_ready simulation later goes_on tasks same in_step keeps = record {
  request = refl;
  point =
      ap (point_by simulation.request simulation.history (record simulation.present { tasks = later })) goes_on
      ∙ (λ i. more (record (state_of simulation.history simulation.present) { table = same i }))
      ∙ sym (ap (point_by simulation.request simulation.history simulation.present) goes_on);
  tasks =
      subst (AreTasksBefore simulation.request.plan.duration (record simulation.present { tasks = later })) (sym goes_on) (record {
        in_step = in_step;
        kept =
            keeps simulation.present.time simulation.request.plan.duration simulation.present.cells
            (subst (AreTasksBefore simulation.request.plan.duration simulation.present) goes_on tasks).kept;
      });
}

pub ready_at : (simulation : Simulation) → simulation.ending ≡ None → (jobs : List (ℕ × Job)) → jobs ≡ ready_jobs simulation.present.cells (table_in simulation.present.tasks) → jobs ≡ jobs_in (point_in simulation)
ready_at simulation goes_on jobs is = is ∙ sym (ap (λ (o : Option RunEnd). jobs_in (point_by simulation.request simulation.history simulation.present o)) goes_on)

pub none_at_end : (simulation : Simulation) (ending : RunEnd) → simulation.ending ≡ Some ending → [] ≡ jobs_in (point_in simulation)
none_at_end simulation ending is = sym (ap (λ (o : Option RunEnd). jobs_in (point_by simulation.request simulation.history simulation.present o)) is)

-- ---- where no task is ready

module _ (of_model : ReachedIsOfModel) (model : Parts) (simulation : Simulation) (valid : IsTrue (valid_model model)) (course : IsOnCourse model simulation)
    (idle : is_idle_at (point_in simulation) ≡ true) where
  abbrev at : SimulationState
  at = state_of simulation.history simulation.present

  goes_on : simulation.ending ≡ None
  goes_on = idle_open simulation.request simulation.history simulation.present simulation.ending idle

  point_is : ◌≡◌ {A = Next SimulationState Run} (point_in simulation) (more at)
  point_is = ap (point_by simulation.request simulation.history simulation.present) goes_on

  none : ready_jobs at.cells at.table ≡ []
  none = none_are (ready_jobs at.cells at.table) (subst (λ (p : Next SimulationState Run). is_idle_at p ≡ true) point_is idle)

  tasks : AreTasksAt simulation.request.plan.duration simulation.present
  tasks = subst (AreTasksBefore simulation.request.plan.duration simulation.present) goes_on course.tasks

  pub in_step : IsInStep simulation.present.tasks
  in_step = tasks.in_step

  comes : IsReachedPruned model simulation.request.plan simulation.request.bound (more at)
  comes = subst (IsReachedPruned model simulation.request.plan simulation.request.bound) point_is course.reached

  from : HasWhole model simulation.request.plan simulation.request.bound at
  from = has_whole model simulation.request.plan simulation.request.bound at comes

  pub time_before : (end : ℕ) → end ≡ simulation.request.plan.duration → simulation.present.time < end
  time_before end is = subst (λ n. simulation.present.time < n) (sym is) (before_end of_model model simulation.request.plan simulation.request.bound valid course.plan at from)

  pub cells_in_range : AreInRange simulation.present.cells
  cells_in_range = in_range of_model model simulation.request.plan simulation.request.bound valid course.plan at from

  pub waits_solvable : WaitsGoByCells → AreSolvable (kind_on simulation.present.cells) (table_in simulation.present.tasks)
  waits_solvable = solvable of_model model simulation.request.plan simulation.request.bound valid course.plan at from

  pub kept : (end : ℕ) → end ≡ simulation.request.plan.duration → AreKept simulation.present.time end simulation.present.cells simulation.present.tasks
  kept end is = subst (λ n. AreKept simulation.present.time n simulation.present.cells simulation.present.tasks) (sym is) tasks.kept

  module _ (later : LiveTasks) (end : ℕ) (end_is : end ≡ simulation.request.plan.duration) (later_in_step : IsInStep later)
      (woke : table_in later ≡ on_each (woken simulation.present.cells) (table_in simulation.present.tasks)) (stay : live (table_in later) ≡ table_in later)
      (found : AreFound simulation.present.time end simulation.present.cells later) where
    found_to_end : AreFound simulation.present.time simulation.request.plan.duration simulation.present.cells later
    found_to_end = subst (λ n. AreFound simulation.present.time n simulation.present.cells later) end_is found

    -- a waiting task goes on
    pub stands_woken : (ready_jobs simulation.present.cells (table_in later) ≡ [] → ⊥) → IsTransitionFrom model simulation (with_tasks simulation later)
    stands_woken some = record {
      request = refl;
      point =
          ap (point_by simulation.request simulation.history (record simulation.present { tasks = later })) goes_on
          ∙ (λ i. more (record at { table = (sym stay ∙ ap live woke) i }))
          ∙ sym (ap pruned_point (some_woken model simulation.request.plan simulation.request.bound at none (λ still. some (ap (ready_jobs simulation.present.cells) woke ∙ still))))
          ∙ sym (ap (after_transition model simulation.request.plan simulation.request.bound) point_is);
      tasks =
          subst (AreTasksBefore simulation.request.plan.duration (record simulation.present { tasks = later })) (sym goes_on)
          (record { in_step = later_in_step; kept = found_to_end.kept });
    }

    -- none goes on
    module _ (still : ready_jobs simulation.present.cells (table_in later) ≡ []) where
      none_ready : ready_jobs at.cells (on_each (woken at.cells) at.table) ≡ []
      none_ready = ap (ready_jobs simulation.present.cells) (sym woke) ∙ still

      same_table : table_in later ≡ table_in simulation.present.tasks
      same_table = woke ∙ woken_none at.cells at.table none_ready

      same_state : ◌≡◌ {A = SimulationState} (state_of simulation.history (record simulation.present { tasks = later })) at
      same_state = λ i. record at { table = same_table i }

      -- where the move of time leads to
      abbrev moved_from : SimulationState → Next SimulationState Run
      moved_from from = pruned_point (moved model simulation.request.plan simulation.request.bound from
          (below simulation.request.plan.duration (least_due from.time simulation.request.plan.duration from.cells from.table)))

      pub is_open : IsOpen model (with_tasks simulation later)
      is_open = record {
        open_ = goes_on;
        cells = as_many of_model model simulation.request.plan simulation.request.bound valid course.plan at from;
        range = cells_in_range;
        in_step = later_in_step;
        found = found_to_end;
      }

      pub goes_onward : PrunedStep → WeightFalls → GoesOnFrom simulation.present.time (point_of_next model (with_tasks simulation later))
      goes_onward step falls =
          subst (λ (s : SimulationState). GoesOnFrom simulation.present.time (moved_from s)) (sym same_state)
          (moves_on step falls of_model model simulation.request.plan simulation.request.bound at valid course.plan comes none none_ready)

      pub stands_moved : (after : Simulation) → StandsAt simulation.request (point_of_next model (with_tasks simulation later)) after → IsTransitionFrom model simulation after
      stands_moved after stands =
          subst (λ (p : Next SimulationState Run). StandsAt simulation.request p after)
          (ap moved_from same_state ∙ sym (ap pruned_point (none_woken model simulation.request.plan simulation.request.bound at none none_ready))
          ∙ sym (ap (after_transition model simulation.request.plan simulation.request.bound) point_is))
          stands
