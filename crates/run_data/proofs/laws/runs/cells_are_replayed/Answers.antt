use Rattle.run_data.proofs.Replay.{cells_are_replayed}
use Rattle.run_data.proofs.laws.runs.cells_are_replayed.Goals as goal

pub returns : goal.returns
returns c = cells_are_replayed
