-- What contracts see of a bench, and what a simulation leaves of it.
use Rattle.std.specs.Prelude.{◌≡◌, ℕ, List}
use Rattle.aerie_base.specs.declared.models.model.Parts.{Parts}
use Rattle.aerie_base.specs.declared.plans.Plan.{Plan}
use Rattle.history_store.specs.Publishing.{PublishedChapter}
use Rattle.run_data.specs.declared.frames.Record.{Record}
use Rattle.run_data.specs.Fresh.{IsFresh}
use Rattle.run_data.specs.KeptRuns.{KeptRun}

pub record BenchOf : Type 0 where
  -- whose plans it simulates
  pub model : Parts
  -- what the cost of a run may come to
  pub bound : ℕ
  -- the steps that it holds
  pub records : List Record
  -- the chapters that it published, in order
  pub receipts : List PublishedChapter
  -- how many statements and tests the last simulation ran
  pub statements : ℕ

-- the same model and the same bound
pub record IsSameBench (before after : BenchOf) : Type 0 where
  pub model : after.model ≡ before.model
  pub bound : after.bound ≡ before.bound

-- a kept run is the fresh run of a plan
pub record IsMadeFor (bench : BenchOf) (planned : Plan) (kept : KeptRun) : Type 0 where
  pub model : kept.model ≡ bench.model
  pub plan : kept.run.plan ≡ planned
  pub fresh : IsFresh bench.model planned bench.bound kept.run

-- a kept run is that of a plan under a bound
pub record IsFreshRunOf (kept : KeptRun) (planned : Plan) (bound : ℕ) : Type 0 where
  pub plan : kept.run.plan ≡ planned
  pub fresh : IsFresh kept.model planned bound kept.run
