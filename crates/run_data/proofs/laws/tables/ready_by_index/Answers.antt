use Rattle.run_data.proofs.ReadyTasks.{ready_by_index}
use Rattle.run_data.proofs.laws.tables.ready_by_index.Goals as goal

pub returns : goal.returns
returns c = ready_by_index
