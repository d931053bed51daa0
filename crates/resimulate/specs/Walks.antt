-- One batch of a simulation beside an old run.
use Rattle.std.specs.Prelude.{◌≡◌, ◌⊎◌, ℕ, List, Option, Some}
use Rattle.run_data.specs.Batches.{by_path}
use Rattle.run_data.specs.TaskFrames.{Frame}
use Rattle.run_data.specs.declared.frames.Record.{Record}
use Rattle.engine_core.specs.BatchEnds.{batch_frames}
use Rattle.engine_core.specs.EngineStates.{EngineState, IsEngineState, IsNextOf, OfBatch, PaysForBatch, LooksForBatch, jobs_in}
use Rattle.fitting.specs.Fitting.{FindsBatch}

-- what is found in an old batch for the ready jobs of an engine
abbrev pub FindsReady : EngineState → List Frame → Option (List Frame) → Type 0
FindsReady engine = FindsBatch engine.model engine.bound (jobs_in engine.point)

-- frames are those of the next batch of an engine, in any order
abbrev pub AreOfNextBatch : EngineState → List Frame → Type 0
AreOfNextBatch engine frames = batch_frames engine.model engine.bound (jobs_in engine.point) ≡ Some (by_path frames)

-- the old frames are not those of the batch of an engine, where that is committed
abbrev pub BatchDiffers : Option (List Frame) → EngineState → Type 0
BatchDiffers beside engine = OfBatch (λ frames. beside ≡ Some frames → ⊥) engine

-- how two counts rose
pub record CountsOfBatch : Type 0 where
  pub steps : ℕ
  pub steps_after : ℕ
  pub looks : ℕ
  pub looks_after : ℕ

abbrev pub counts_by : ℕ → ℕ → ℕ → ℕ → CountsOfBatch
counts_by steps steps_after looks looks_after =
    record { steps = steps; steps_after = steps_after; looks = looks; looks_after = looks_after }

-- the batch was taken over, so that no count rose
pub record WasTakenOver (rise : CountsOfBatch) : Type 0 where
  pub steps : rise.steps_after ≡ rise.steps
  pub looks : rise.looks_after ≡ rise.looks

-- the batch was stepped, since the old frames are not all of its own
pub record WasStepped (beside : Option (List Frame)) (engine : EngineState) (records : List Record) (rise : CountsOfBatch) : Type 0 where
  pub differs : BatchDiffers beside engine
  pub pays : PaysForBatch engine records rise.steps rise.steps_after
  pub looks : LooksForBatch engine rise.looks rise.looks_after

-- an engine goes on by one batch, beside an old one if there is any
pub record GoesOn (engine later : EngineState) (beside : Option (List Frame)) (records : List Record) (rise : CountsOfBatch) : Type 0 where
  pub model : later.model ≡ engine.model
  pub plan : later.plan ≡ engine.plan
  pub bound : later.bound ≡ engine.bound
  pub stands : IsEngineState later
  pub next : IsNextOf engine later
  pub counts : WasTakenOver rise ⊎ WasStepped beside engine records rise
