use Rattle.run_data.proofs.CellKinds.{waits_go_by_cells}
use Rattle.run_data.proofs.laws.steps.waits_go_by_the_cells.Goals as goal

pub returns : goal.returns
returns c = waits_go_by_cells
