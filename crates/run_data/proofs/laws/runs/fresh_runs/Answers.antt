use Rattle.run_data.proofs.CellsInRange.{cells_are_in_range, cells_of_valid}
use Rattle.run_data.proofs.FreshRuns.{fresh_run_is_of_plan, batches_are_reached, frames_of_runs_are_valid}
use Rattle.run_data.proofs.laws.runs.fresh_runs.Goals as goal

pub returns : goal.returns
returns c = record {
  plan = fresh_run_is_of_plan;
  batches = batches_are_reached;
  frames = frames_of_runs_are_valid;
  cells = cells_are_in_range;
  valid_cells = cells_of_valid;
}
