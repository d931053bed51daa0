-- The benches of a client, and which of the runs that are kept on branches are passed on to them.
use Rattle.std.specs.Prelude.{◌≡◌, ℕ, ◌≤◌, List, Option, Some, IfSome, slice_get}
use Rattle.std.specs.List.{AllByRecursion}
use Rattle.aerie_base.specs.Ranges.{step_limit}
use Rattle.aerie_base.specs.declared.models.model.Parts.{Parts}
use Rattle.bench.specs.Benches.{BenchOf}
use Rattle.run_data.specs.KeptRuns.{KeptRun}

-- benches that simulate under a bound, and cut a wave into so many pieces at most
pub record AreBenches (bound pieces : ℕ) (benches : List BenchOf) : Type 0 where
  pub within : bound ≤ step_limit
  pub some : 1 ≤ pieces
  pub few : pieces ≤ 64
  pub alike : AllByRecursion (λ (bench : BenchOf). bench.bound ≡ bound) benches

-- a bench of a model stands at a place
pub record IsBenchAt (benches : List BenchOf) (model : Parts) (at : ℕ) : Type 0 where
  pub bench : BenchOf
  pub there : slice_get benches at ≡ Some bench
  pub of_model : bench.model ≡ model

-- the run that is kept on a branch is passed on to a bench of a model exactly where it is of that model
pub record IsPassedOn (model : Parts) (kept passed : Option KeptRun) : Type 0 where
  pub no_other : IfSome passed (λ run. kept ≡ Some run)
  pub of_model : IfSome passed (λ run. run.model ≡ model)
  pub whenever : (run : KeptRun) → kept ≡ Some run → run.model ≡ model → passed ≡ Some run
