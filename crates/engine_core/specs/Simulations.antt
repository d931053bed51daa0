-- What the code's parts of a simulation are.
use Rattle.std.specs.Prelude.{◌≡◌, ℕ, ◌≤◌, Bool, true, false, List, [], ◌∷◌, ◌++◌, Option, Some, None}
use Rattle.aerie_base.specs.Ranges.{step_limit}
use Rattle.aerie_base.specs.declared.models.model.Parts.{Parts}
use Rattle.aerie_base.specs.plans.OfModel.{IsPlanOf}
use Rattle.effect_cells.specs.declared.effects.CellState.{CellState}
use Rattle.run_data.specs.TaskFrames.{Frame}
use Rattle.run_data.specs.declared.frames.Record.{Record}
use Rattle.run_data.specs.declared.jobs.Job.{Job}
use Rattle.run_data.specs.declared.runs.Instant.{Instant}
use Rattle.run_data.specs.declared.runs.Outcome.{Outcome}
use Rattle.run_data.specs.declared.runs.Run.{Run}
use Rattle.run_data.specs.Fresh.{SimulationState, after_outcome, states_from}
use Rattle.run_data.specs.Tasks.{Table, ready_jobs, after_frames}
use Rattle.run_data.specs.Transitions.{Next, more, finished}
use Rattle.run_data.specs.laws.BatchFrames.{AreFramesOf}
use Rattle.run_data.specs.laws.PrunedStates.{pruned_point}
use Rattle.live_tasks.specs.Endings.{ChildrenAreFew}
use Rattle.live_tasks.specs.FrameOrders.{AreByPath}
use Rattle.live_tasks.specs.InStep.{table_in, IsInStep}
use Rattle.live_tasks.specs.Waking.{AgreeBut, AreKept}
use Rattle.engine_core.specs.BatchEnds.{batch_as}
use Rattle.engine_core.specs.EngineStates.{EngineState, HasJob, jobs_in, IsReachedPruned, IsNextOf, after_transition, PaysForBatch, LooksForBatch}
use Rattle.engine_core.specs.declared.batch_ends.BatchEnd.{BatchEnd}
use Rattle.engine_core.specs.declared.batch_ends.BatchEnd.TheVariants.{Limit, Failed, Committed}
use Rattle.engine_core.specs.declared.history.History.{History}
use Rattle.engine_core.specs.declared.present.Present.{Present}
use Rattle.engine_core.specs.declared.simulation.RunEnd.{RunEnd}
use Rattle.engine_core.specs.declared.simulation.Request.{Request}
use Rattle.engine_core.specs.declared.simulation.Simulation.{Simulation}

-- ---- where it stands

abbrev pub state_of : History → Present → SimulationState
state_of history present = record {
  time = present.time;
  cells = present.cells;
  spent = present.spent;
  table = table_in present.tasks;
  instants = history.instants;
  batches = history.batches;
  touched = history.touched;
}

-- the run of what is simulated, which has ended so
abbrev pub run_with : Request → History → RunEnd → Run
run_with request history ending = record {
  plan = request.plan;
  bound = request.bound;
  instants = history.instants;
  reach = ending.reach;
  outcome = ending.outcome;
}

abbrev pub point_by : Request → History → Present → Option RunEnd → Next SimulationState Run
point_by request history present None = more (state_of history present)
point_by request history present (Some ending) = finished (run_with request history ending)

-- where the simulation stands, or its run
abbrev pub point_in : Simulation → Next SimulationState Run
point_in simulation = point_by simulation.request simulation.history simulation.present simulation.ending

-- the live tasks are in step, and the kept wake times are right, up to the end of a plan
pub record AreTasksAt (end : ℕ) (present : Present) : Type 0 where
  pub in_step : IsInStep present.tasks
  pub kept : AreKept present.time end present.cells present.tasks

-- so they are where the simulation has not ended
abbrev pub AreTasksBefore : ℕ → Present → Option RunEnd → Type 0
AreTasksBefore end present None = AreTasksAt end present
AreTasksBefore end present (Some ending) = Unit {0}

abbrev pub AreTasksIn : Simulation → Type 0
AreTasksIn simulation = AreTasksBefore simulation.request.plan.duration simulation.present simulation.ending

-- the simulation of the plan comes there, and its tasks are as they should be
pub record IsOnCourse (model : Parts) (simulation : Simulation) : Type 0 where
  pub plan : IsPlanOf model simulation.request.plan
  pub bound : simulation.request.bound ≤ step_limit
  pub reached : IsReachedPruned model simulation.request.plan simulation.request.bound (point_in simulation)
  pub tasks : AreTasksIn simulation

-- it is there before a batch, whose jobs are these, or at its run
pub record IsBeforeBatch (model : Parts) (jobs : List (ℕ × Job)) (simulation : Simulation) : Type 0 where
  pub course : IsOnCourse model simulation
  pub has_job : HasJob (point_in simulation)
  pub ready : jobs ≡ jobs_in (point_in simulation)

-- what is simulated, and where it stands
abbrev pub engine_state_of : Parts → Simulation → EngineState
engine_state_of model simulation =
    record { model = model; plan = simulation.request.plan; bound = simulation.request.bound; point = point_in simulation }

-- where one stands, the transition from the other leads to
abbrev pub IsAtNext : Parts → Simulation → Simulation → Type 0
IsAtNext model before after = IsNextOf (engine_state_of model before) (engine_state_of model after)

-- a simulation of what is to be simulated stands at a point, and its tasks are as they should be
pub record StandsAt (of : Request) (there : Next SimulationState Run) (simulation : Simulation) : Type 0 where
  pub request : simulation.request ≡ of
  pub point : point_in simulation ≡ there
  pub tasks : AreTasksIn simulation

-- the transition from one gives the other
abbrev pub IsTransitionFrom : Parts → Simulation → Simulation → Type 0
IsTransitionFrom model before =
    StandsAt before.request (after_transition model before.request.plan before.request.bound (point_in before))

-- ---- ready tasks

-- whether there is no job
abbrev pub are_none : List (ℕ × Job) → Bool
are_none [] = true
are_none (job ∷ rest) = false

-- whether no task is ready at a point, which is not the run
abbrev pub is_idle_at : Next SimulationState Run → Bool
is_idle_at (more at) = are_none (ready_jobs at.cells at.table)
is_idle_at (finished run) = false

-- ---- the end of a batch

-- where a batch is committed, other cells than those it touched are as they were
abbrev pub TouchesAll : BatchEnd → List CellState → List CellState → Type 0
TouchesAll Limit before after = Unit {0}
TouchesAll (Failed who fault) before after = Unit {0}
TouchesAll (Committed frames touched spent) before after = AgreeBut touched before after

-- frames are those of a batch of a table, in order of path, and no task makes so many children that the next one has no number
pub record AreTaken (now : ℕ) (table : Table) (frames : List Frame) : Type 0 where
  pub order : AreByPath frames
  pub are : AreFramesOf table frames
  pub few : ChildrenAreFew (after_frames now frames table)

-- so are those of a batch that is committed
abbrev pub MayTakeEnd : BatchEnd → Present → Type 0
MayTakeEnd Limit present = Unit {0}
MayTakeEnd (Failed who fault) present = Unit {0}
MayTakeEnd (Committed frames touched spent) present = AreTaken present.time (table_in present.tasks) frames

-- where the simulation stands after a batch that ended so, its effects being on the cells
abbrev pub point_after : Parts → Simulation → BatchEnd → Next SimulationState Run
point_after model before end =
    pruned_point (after_outcome model before.request.plan before.request.bound (state_of before.history before.present) (batch_as end before.present.cells))

-- from kept wake times that were right for the cells before the batch
abbrev pub IsAfterEnd : Simulation → BatchEnd → Simulation → Type 0
IsAfterEnd before end after =
    (model : Parts) (cells : List CellState) → AreKept before.present.time before.request.plan.duration cells before.present.tasks →
    TouchesAll end cells before.present.cells → StandsAt before.request (point_after model before end) after

-- ---- shorter words

-- a simulation that has ended at the time at hand
abbrev pub ending_with : Simulation → Outcome → Simulation
ending_with before outcome = record before { ending = Some (record { reach = before.present.time; outcome = outcome }) }

-- with a batch more
abbrev pub with_batch : List Frame → List ℕ → History → History
with_batch frames touched history = record history { batches = history.batches ++ frames ∷ []; touched = history.touched ++ touched }

-- the instant at hand, settled on these cells
abbrev pub instant_on : ℕ → History → List CellState → Instant
instant_on time history cells = record { time = time; batches = history.batches; changed = states_from 0 history.touched cells }

-- the jobs that are ready
abbrev pub jobs_at : Present → List (ℕ × Job)
jobs_at present = ready_jobs present.cells (table_in present.tasks)

-- where a batch is committed, a count rose by at most what its frames cost that no record fits
abbrev pub PaysFrom : Parts → Simulation → List Record → ℕ → ℕ → Type 0
PaysFrom model simulation records before after = PaysForBatch (engine_state_of model simulation) records before after

-- and another by at most two for each of its frames
abbrev pub LooksFrom : Parts → Simulation → ℕ → ℕ → Type 0
LooksFrom model simulation before after = LooksForBatch (engine_state_of model simulation) before after
