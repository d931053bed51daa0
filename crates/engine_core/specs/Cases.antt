-- Worked cases: what is left of a point once all that has ended is left out.
use Rattle.std.specs.Prelude.{◌≡◌, ℕ, true, List, [], ◌∷◌, None, refl}
use Rattle.aerie_base.specs.Paths.{root, child_path}
use Rattle.aerie_base.specs.declared.models.model.Parts.{Parts}
use Rattle.aerie_base.specs.declared.plans.Plan.{Plan}
use Rattle.effect_cells.specs.declared.effects.CellState.{CellState}
use Rattle.run_data.specs.declared.runs.Run.{Run}
use Rattle.run_data.specs.declared.tasks.TaskState.{TaskState}
use Rattle.run_data.specs.Fresh.{SimulationState}
use Rattle.run_data.specs.Tasks.{TaskPhase, ready, over, Task, Table}
use Rattle.run_data.specs.Transitions.{more, finished}
use Rattle.run_data.specs.laws.PrunedStates.{pruned, pruned_point}
use Rattle.engine_core.specs.EngineStates.{jobs_in, time_in, batches_in, HasJob, LeadsTo, there, after_transition}

module _ (state : TaskState) (cells : List CellState) where
  abbrev pub begun_task : TaskPhase → Task
  begun_task phase = record { phase = phase; made = 1; begun = true }

  abbrev pub at_five : Table → SimulationState
  at_five table = record { time = 5; cells = cells; spent = 3; table = table; instants = []; batches = []; touched = [] }

  -- a directive that has ended with its child, and one that is ready
  abbrev pub with_an_end : Table
  with_an_end = (root 1, begun_task (over None)) ∷ (child_path (root 1) 0, begun_task (over None)) ∷ (root 2, begun_task (ready state)) ∷ []

  -- a directive whose body is over, and its child, which is ready
  abbrev pub with_a_live_child : Table
  with_a_live_child = (root 1, begun_task (over None)) ∷ (child_path (root 1) 0, begun_task (ready state)) ∷ []

  pub what_has_ended_is_left_out : pruned (at_five with_an_end) ≡ at_five ((root 2, begun_task (ready state)) ∷ [])
  what_has_ended_is_left_out = refl

  pub over_with_a_live_child_it_stays : pruned (at_five with_a_live_child) ≡ at_five with_a_live_child
  over_with_a_live_child_it_stays = refl

  -- the jobs, the time and the batches of a point are those of the whole

  pub the_jobs_are_the_same : jobs_in (pruned_point (more (at_five with_an_end))) ≡ jobs_in (more (at_five with_an_end))
  the_jobs_are_the_same = refl

  pub the_time_is_the_same : time_in (pruned_point (more (at_five with_an_end))) ≡ 5
  the_time_is_the_same = refl

  pub the_batches_are_the_same : batches_in (pruned_point (more (at_five with_an_end))) ≡ []
  the_batches_are_the_same = refl

  -- a run stays as it is

  pub a_run_stays : (model : Parts) (plan : Plan) (bound : ℕ) (run : Run) → after_transition model plan bound (finished run) ≡ finished run
  a_run_stays model plan bound run = refl

  -- a point with a job is where it leads to

  pub it_stops_before_a_job : (model : Parts) (plan : Plan) (bound : ℕ) → HasJob (pruned_point (more (at_five with_a_live_child))) →
      LeadsTo model plan bound (pruned_point (more (at_five with_a_live_child))) (pruned_point (more (at_five with_a_live_child)))
  it_stops_before_a_job model plan bound job = there job
