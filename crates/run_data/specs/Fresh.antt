-- A fresh run: the simulation of a plan from its start.
use Rattle.std.specs.Prelude.{ℕ, ◌+◌, ◌-◌, List, [], ◌∷◌, ◌++◌, Option, Some, None, if◌then◌else◌, nat_eq, nat_lt}
use Rattle.std.specs.List.{list_any}
use Rattle.aerie_base.specs.declared.faults.Fault.TheVariants.{Range}
use Rattle.aerie_base.specs.declared.models.model.Parts.{Parts}
use Rattle.aerie_base.specs.declared.plans.Plan.{Plan}
use Rattle.aerie_base.specs.TimeOrder.{earlier}
use Rattle.effect_cells.specs.declared.effects.CellState.{CellState}
use Rattle.effect_cells.specs.Cells.{initial, passed, first_out}
use Rattle.effect_cells.specs.WakeTimes.{wake_time}
use Rattle.run_data.specs.declared.jobs.Job.{Job}
use Rattle.run_data.specs.TaskFrames.{Frame}
use Rattle.run_data.specs.declared.runs.Who.TheVariants as who
use Rattle.run_data.specs.declared.runs.Instant.{Instant}
use Rattle.run_data.specs.declared.runs.Outcome.{Outcome}
use Rattle.run_data.specs.declared.runs.Outcome.TheVariants.{Completed, Failed, StepLimit}
use Rattle.run_data.specs.declared.runs.Run.{Run}
use Rattle.run_data.specs.Batches.{Batch, limit, failed, committed, batch, cost_of}
use Rattle.run_data.specs.Tasks.{TaskPhase, anchored, ready, delayed, waiting, calling, over, Table, on_each, with_directives, with_daemons, ready_jobs, woken, rested}
use Rattle.run_data.specs.Endings.{after_batch}
use Rattle.run_data.specs.Transitions.{Next, more, finished, Reaches, iterate}

-- ---- the next time

abbrev pub from_now : ℕ → Option ℕ → Option ℕ
from_now now None = None
from_now now (Some dt) = Some (now + dt)

-- when a task is to go on by itself: at the end of its delay, at its due time, or when it wakes before the horizon
abbrev pub due_time : ℕ → ℕ → List CellState → TaskPhase → Option ℕ
due_time now horizon cells (delayed until state) = Some until
due_time now horizon cells (waiting condition state) = from_now now (wake_time cells condition (horizon - now))
due_time now horizon cells (anchored to edge start state) = None
due_time now horizon cells (ready state) = None
due_time now horizon cells (calling child into state) = None
due_time now horizon cells (over result) = None

-- the least of these times
abbrev pub least_due : ℕ → ℕ → List CellState → Table → Option ℕ
least_due now horizon cells [] = None
least_due now horizon cells (entry ∷ rest) = earlier (due_time now horizon cells entry.1.phase) (least_due now horizon cells rest)

-- one that is below the horizon
abbrev pub below : ℕ → Option ℕ → Option ℕ
below horizon None = None
below horizon (Some time) = if nat_lt time horizon then Some time else None

-- ---- where a run stands

pub record SimulationState : Type 0 where
  pub time : ℕ
  pub cells : List CellState
  -- the costs of all frames so far
  pub spent : ℕ
  pub table : Table
  -- the settled instants
  pub instants : List Instant
  -- the batches of this time
  pub batches : List (List Frame)
  -- the cells on which they had an effect
  pub touched : List ℕ

-- at time 0, with the initial cells
abbrev pub start : Parts → Plan → SimulationState
start model plan = record {
  time = 0;
  cells = initial model;
  spent = 0;
  table = on_each (rested 0) (with_directives model plan.directives (with_daemons 0 model.daemons []));
  instants = [];
  batches = [];
  touched = [];
}

-- the cells of these numbers, in order, each with its state
abbrev pub states_from : ℕ → List ℕ → List CellState → List (ℕ × CellState)
states_from cell touched [] = []
states_from cell touched (state ∷ rest) =
    if list_any (nat_eq cell) touched then (cell, state) ∷ states_from (cell + 1) touched rest else states_from (cell + 1) touched rest

-- the instant, once it is settled
abbrev pub instant_at : SimulationState → Instant
instant_at at = record { time = at.time; batches = at.batches; changed = states_from 0 at.touched at.cells }

module _ (model : Parts) (plan : Plan) (bound : ℕ) where
  abbrev run_of : List Instant → ℕ → Outcome → Run
  run_of instants reach outcome = record { plan = plan; bound = bound; instants = instants; reach = reach; outcome = outcome }

  -- ---- a batch

  -- where a batch stops, its instant is not part of the run
  abbrev pub after_stop : SimulationState → Outcome → Next SimulationState Run
  after_stop at outcome = finished (run_of at.instants at.time outcome)

  abbrev pub after_outcome : SimulationState → Batch → Next SimulationState Run
  after_outcome at limit = after_stop at (StepLimit at.time)
  after_outcome at (failed who fault) = after_stop at (Failed at.time who fault)
  after_outcome at (committed cells touched frames) = more (record at {
    cells = cells;
    spent = at.spent + cost_of frames;
    table = after_batch at.time frames at.table;
    batches = at.batches ++ frames ∷ [];
    touched = at.touched ++ touched;
  })

  -- ---- a settled instant

  abbrev pub settled : SimulationState → List Instant
  settled at = at.instants ++ instant_at at ∷ []

  -- where a cell leaves its range as time passes, the run has failed at the new time
  abbrev pub out_at : SimulationState → ℕ → ℕ → Next SimulationState Run
  out_at at time cell = finished (run_of (settled at) at.time (Failed time (who.Cell cell) Range))

  abbrev pub to_time : SimulationState → ℕ → List CellState → Option ℕ → Next SimulationState Run
  to_time at time cells (Some cell) = out_at at time cell
  to_time at time cells None = more (record {
    time = time;
    cells = cells;
    spent = at.spent;
    table = on_each (rested time) at.table;
    instants = settled at;
    batches = [];
    touched = [];
  })

  abbrev pub to_end : SimulationState → Option ℕ → Next SimulationState Run
  to_end at (Some cell) = out_at at plan.duration cell
  to_end at None = finished (run_of (settled at) plan.duration Completed)

  -- to the next time below the plan's end, or to the end
  abbrev pub moved : SimulationState → Option ℕ → Next SimulationState Run
  moved at (Some time) = let cells = passed at.cells (time - at.time) in to_time at time cells (first_out cells)
  moved at None = to_end at (first_out (passed at.cells (plan.duration - at.time)))

  -- ---- the fold

  -- no task was ready: those whose condition holds are now, and where there is none the instant is settled
  abbrev pub woken_or_moved : SimulationState → Table → List (ℕ × Job) → Next SimulationState Run
  woken_or_moved at table [] = moved at (below plan.duration (least_due at.time plan.duration at.cells at.table))
  woken_or_moved at table (job ∷ rest) = more (record at { table = table })

  abbrev pub next_by : SimulationState → List (ℕ × Job) → Next SimulationState Run
  next_by at [] = let table = on_each (woken at.cells) at.table in woken_or_moved at table (ready_jobs at.cells table)
  next_by at (job ∷ rest) = after_outcome at (batch model bound at.spent at.cells (job ∷ rest))

  -- the next batch of the ready tasks, or the judging of the waiting ones, or the next time
  abbrev pub next_state : SimulationState → Next SimulationState Run
  next_state at = next_by at (ready_jobs at.cells at.table)

  -- the run stands there at some time
  abbrev pub IsReached : Next SimulationState Run → Type 0
  IsReached = Reaches SimulationState Run next_state (start model plan)

  -- this is the fresh run of the plan
  abbrev pub IsFresh : Run → Type 0
  IsFresh run = IsReached (finished run)

  -- where the run stands after so many transitions
  abbrev pub after_transitions : ℕ → Next SimulationState Run
  after_transitions count = iterate SimulationState Run next_state count (more (start model plan))
