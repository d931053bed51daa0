-- How the engine has the end of a batch, what a batch needs, and what it may count.
use Rattle.std.specs.Prelude.{◌≡◌, ℕ, ◌+◌, ◌*◌, ◌≤◌, List, Option, option_map, length}
use Rattle.aerie_base.specs.Ranges.{number_limit}
use Rattle.aerie_base.specs.declared.models.model.Parts.{Parts}
use Rattle.effect_cells.specs.declared.effects.CellState.{CellState}
use Rattle.effect_cells.specs.Cells.{AreInRange}
use Rattle.run_data.specs.declared.jobs.Job.{Job}
use Rattle.run_data.specs.TaskFrames.{Frame}
use Rattle.run_data.specs.declared.frames.Record.{Record}
use Rattle.run_data.specs.Batches.{Batch, limit, failed, committed, cost_of, by_path}
use Rattle.run_data.specs.Frames.{made_by_all}
use Rattle.run_data.specs.Jobs.{AreCellsOf}
use Rattle.run_data.specs.Records.{unmatched}
use Rattle.run_data.specs.laws.Generations.{frames_in}
use Rattle.run_data.specs.laws.Orders.{EachOf, EachTwo, AreApart}
use Rattle.run_data.specs.laws.SmallSteps.{IsJobWithin}
use Rattle.engine_core.specs.declared.batch_ends.BatchEnd.{BatchEnd}
use Rattle.engine_core.specs.declared.batch_ends.BatchEnd.TheVariants.{Limit, Failed, Committed}

-- the end of a batch, where the cells are these afterwards
abbrev pub batch_as : BatchEnd → List CellState → Batch
batch_as Limit cells = limit
batch_as (Failed who fault) cells = failed who fault
batch_as (Committed frames touched spent) cells = committed cells touched frames

-- what is spent with a batch that is committed
abbrev pub SpendsWith : ℕ → BatchEnd → Type 0
SpendsWith before Limit = Unit {0}
SpendsWith before (Failed who fault) = Unit {0}
SpendsWith before (Committed frames touched spent) = spent ≡ before + cost_of frames

-- the frames of a batch in order of path, where no step of it passes the bound by itself
abbrev pub batch_frames : Parts → ℕ → List (ℕ × Job) → Option (List Frame)
batch_frames model bound jobs = option_map by_path (frames_in (made_by_all model bound jobs))

-- jobs of different tasks and cells of the model, such as wherever a simulation comes; each child was paid for
pub record AreReadyJobs (model : Parts) (spent : ℕ) (cells : List CellState) (jobs : List (ℕ × Job)) : Type 0 where
  pub of_model : AreCellsOf model cells
  pub in_range : AreInRange cells
  pub within : EachOf (λ job. IsJobWithin model number_limit job.1) jobs
  pub apart : EachTwo AreApart jobs
  pub made : EachOf (λ job. job.0 ≤ spent) jobs

-- where a batch is committed, the count of statements rose by at most what its frames cost that no record fits
abbrev pub IsFrugalEnd : BatchEnd → List Record → ℕ → ℕ → Type 0
IsFrugalEnd Limit records before after = Unit {0}
IsFrugalEnd (Failed who fault) records before after = Unit {0}
IsFrugalEnd (Committed frames touched spent) records before after = after ≤ before + unmatched frames records

-- and the count of searches by at most two for each frame
abbrev pub HasFewLooks : BatchEnd → ℕ → ℕ → Type 0
HasFewLooks Limit before after = Unit {0}
HasFewLooks (Failed who fault) before after = Unit {0}
HasFewLooks (Committed frames touched spent) before after = after ≤ before + 2 * length frames
