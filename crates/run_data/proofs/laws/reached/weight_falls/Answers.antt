use Rattle.run_data.proofs.Ending.{weight_falls, weight_begins}
use Rattle.run_data.proofs.laws.reached.weight_falls.Goals as goal

pub returns : goal.returns
returns c = record { falls = weight_falls; begins = weight_begins }
