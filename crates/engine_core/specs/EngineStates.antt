-- Where an engine stands: at a point of a simulation that holds what is live alone.
use Rattle.std.specs.Prelude.{◌≡◌, ℕ, ◌+◌, ◌*◌, ◌≤◌, List, [], length}
use Rattle.aerie_base.specs.Ranges.{step_limit}
use Rattle.aerie_base.specs.declared.models.model.Parts.{Parts}
use Rattle.aerie_base.specs.declared.plans.Plan.{Plan}
use Rattle.aerie_base.specs.plans.OfModel.{IsPlanOf}
use Rattle.effect_cells.specs.declared.effects.CellState.{CellState}
use Rattle.run_data.specs.declared.jobs.Job.{Job}
use Rattle.run_data.specs.TaskFrames.{Frame}
use Rattle.run_data.specs.declared.frames.Record.{Record}
use Rattle.run_data.specs.declared.runs.Instant.{Instant}
use Rattle.run_data.specs.declared.runs.Run.{Run}
use Rattle.run_data.specs.Batches.{batch, committed}
use Rattle.run_data.specs.Fresh.{SimulationState, next_state, IsReached}
use Rattle.run_data.specs.Records.{unmatched}
use Rattle.run_data.specs.Tasks.{ready_jobs}
use Rattle.run_data.specs.Transitions.{Next, more, finished}
use Rattle.run_data.specs.laws.PrunedStates.{pruned_point}

-- a model, a plan, a bound, and a point of the simulation of the plan without what has ended: a state or the run
pub record EngineState : Type 0 where
  pub model : Parts
  pub plan : Plan
  pub bound : ℕ
  pub point : Next SimulationState Run

-- the jobs that are ready at a point, each with the number of children that its task has made
abbrev pub jobs_in : Next SimulationState Run → List (ℕ × Job)
jobs_in (more at) = ready_jobs at.cells at.table
jobs_in (finished run) = []

abbrev pub time_in : Next SimulationState Run → ℕ
time_in (more at) = at.time
time_in (finished run) = run.reach

-- the batches that are committed at the time of a point
abbrev pub batches_in : Next SimulationState Run → List (List Frame)
batches_in (more at) = at.batches
batches_in (finished run) = []

-- the instants that are settled at a point
abbrev pub instants_in : Next SimulationState Run → List Instant
instants_in (more at) = at.instants
instants_in (finished run) = run.instants

-- what the costs come to at a point
abbrev pub spent_in : Next SimulationState Run → ℕ
spent_in (more at) = at.spent
spent_in (finished run) = 0

-- some job is ready, or the run is there
abbrev pub HasJob : Next SimulationState Run → Type 0
HasJob (more at) = ready_jobs at.cells at.table ≡ [] → ⊥
HasJob (finished run) = Unit {0}

-- the simulation of the plan comes to a point that is this one once all that has ended is left out
pub record IsReachedPruned (model : Parts) (plan : Plan) (bound : ℕ) (point : Next SimulationState Run) : Type 0 where
  pub whole : Next SimulationState Run
  pub reached : IsReached model plan bound whole
  pub is : pruned_point whole ≡ point

-- the simulation of the plan comes there, before a batch or at the run
pub record IsEngineState (engine : EngineState) : Type 0 where
  pub plan : IsPlanOf engine.model engine.plan
  pub bound : engine.bound ≤ step_limit
  pub reached : IsReachedPruned engine.model engine.plan engine.bound engine.point
  pub has_job : HasJob engine.point

-- a transition from a point, after which what has ended is left out
abbrev pub after_transition : Parts → Plan → ℕ → Next SimulationState Run → Next SimulationState Run
after_transition model plan bound (more at) = pruned_point (next_state model plan bound at)
after_transition model plan bound (finished run) = finished run

-- from a point on, without a batch, to the next that has a job, or to the run
pub data LeadsTo (model : Parts) (plan : Plan) (bound : ℕ) : Next SimulationState Run → Next SimulationState Run → Type 0 where
  there : {point : Next SimulationState Run} → HasJob point → LeadsTo model plan bound point point
  on : {at : SimulationState} {later : Next SimulationState Run} → ready_jobs at.cells at.table ≡ [] →
      LeadsTo model plan bound (pruned_point (next_state model plan bound at)) later → LeadsTo model plan bound (more at) later

-- the transition from one point leads to another
abbrev pub IsNextOf : EngineState → EngineState → Type 0
IsNextOf engine later =
    LeadsTo engine.model engine.plan engine.bound (after_transition engine.model engine.plan engine.bound engine.point) later.point

-- where the batch of a point is committed, it has such frames
abbrev pub OfBatch : (List Frame → Type 0) → EngineState → Type 0
OfBatch HasFrames engine =
    (at : SimulationState) (cells : List CellState) (touched : List ℕ) (frames : List Frame) → engine.point ≡ more at →
    batch engine.model engine.bound at.spent at.cells (ready_jobs at.cells at.table) ≡ committed cells touched frames → HasFrames frames

-- where the batch of a point is committed, a count rose by at most what its frames cost that no record fits
abbrev pub PaysForBatch : EngineState → List Record → ℕ → ℕ → Type 0
PaysForBatch engine records before after = OfBatch (λ frames. after ≤ before + unmatched frames records) engine

-- and another by at most two for each of its frames
abbrev pub LooksForBatch : EngineState → ℕ → ℕ → Type 0
LooksForBatch engine before after = OfBatch (λ frames. after ≤ before + 2 * length frames) engine

-- a stepper is of the same models as before
abbrev pub OfSameModels : (Parts → Type 0) → (Parts → Type 0) → Type 0
OfSameModels was is = (of : Parts) → (was of → is of) × (is of → was of)
