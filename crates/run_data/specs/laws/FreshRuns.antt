-- What is known of the fresh run of a plan: where each of its batches comes from, and what holds of its frames and cells.
use Rattle.std.specs.Prelude.{◌≡◌, ℕ, ◌<◌, IsTrue, List, [], ◌∷◌, ◌++◌}
use Rattle.std.specs.List.{All}
use Rattle.aerie_base.specs.declared.models.model.Parts.{Parts}
use Rattle.aerie_base.specs.declared.plans.Plan.{Plan}
use Rattle.aerie_base.specs.models.ValidModel.{valid_model}
use Rattle.effect_cells.specs.declared.effects.CellState.{CellState}
use Rattle.effect_cells.specs.Cells.{initial, AreInRange}
use Rattle.run_data.specs.TaskFrames.{Frame}
use Rattle.run_data.specs.declared.runs.Instant.{Instant}
use Rattle.run_data.specs.declared.runs.Run.{Run}
use Rattle.run_data.specs.Batches.{batch, committed}
use Rattle.run_data.specs.Transitions.{more}
use Rattle.run_data.specs.Fresh.{SimulationState, IsReached, IsFresh}
use Rattle.run_data.specs.Records.{IsValid, record_of}
use Rattle.run_data.specs.Tasks.{ready_jobs}
use Rattle.run_data.specs.Values.{cells_at}

-- a fresh run of a plan is of that plan and under that bound
abbrev pub FreshRunIsOfPlan : Type 0
FreshRunIsOfPlan =
    (model : Parts) (plan : Plan) (bound : ℕ) (run : Run) → IsFresh model plan bound run → (run.plan ≡ plan) × (run.bound ≡ bound)

-- ---- batches

-- Frames that are the batch of a state which is reached at this time, after these instants and after these batches of its
-- own instant.
pub record IsReachedBatch (model : Parts) (plan : Plan) (bound : ℕ) (before : List Instant) (time : ℕ) (earlier : List (List Frame)) (frames : List Frame) : Type 0 where
  pub at : SimulationState
  pub is_reached : IsReached model plan bound (more at)
  pub instants_before : at.instants ≡ before
  pub at_time : at.time ≡ time
  pub batches_before : at.batches ≡ earlier
  -- the cells behind the batch, and those on which it had an effect
  pub cells : List CellState
  pub touched : List ℕ
  pub is_batch : batch model bound at.spent at.cells (ready_jobs at.cells at.table) ≡ committed cells touched frames

-- each element, with those that stand before it
abbrev pub EachAfter : {A : Type 0} → (List A → A → Type 0) → List A → List A → Type 0
EachAfter P before [] = Unit {0}
EachAfter P before (first ∷ rest) = P before first × EachAfter P (before ++ first ∷ []) rest

-- each batch of each instant of a fresh run is that of a state which its simulation reached there
abbrev pub BatchesAreReached : Type 0
BatchesAreReached =
    (model : Parts) (plan : Plan) (bound : ℕ) (run : Run) → IsFresh model plan bound run →
    EachAfter (λ before instant. EachAfter (IsReachedBatch model plan bound before instant.time) [] instant.batches) [] run.instants

-- each frame of a fresh run is a valid record, for whatever plan
abbrev pub FramesOfRunsAreValid : Type 0
FramesOfRunsAreValid =
    (model : Parts) (plan : Plan) (bound : ℕ) (run : Run) → IsFresh model plan bound run →
    All (λ (instant : Instant). All (All (λ frame. IsValid model (record_of frame))) instant.batches) run.instants

-- ---- cells

-- where the cells begin in range, those that are read off a fresh run below its reach are in range
abbrev pub CellsAreInRange : Type 0
CellsAreInRange =
    (model : Parts) (plan : Plan) (bound : ℕ) (run : Run) → AreInRange (initial model) → IsFresh model plan bound run →
    (t : ℕ) → t < run.reach → AreInRange (cells_at model run t)

-- so they are off a fresh run of a valid model, for whatever plan
abbrev pub CellsOfValidAreInRange : Type 0
CellsOfValidAreInRange =
    (model : Parts) (plan : Plan) (bound : ℕ) (run : Run) → IsTrue (valid_model model) → IsFresh model plan bound run →
    (t : ℕ) → t < run.reach → AreInRange (cells_at model run t)
