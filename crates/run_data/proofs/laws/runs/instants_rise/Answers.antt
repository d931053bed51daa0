use Rattle.run_data.proofs.Rising.{instants_rise, instants_before}
use Rattle.run_data.proofs.laws.runs.instants_rise.Goals as goal

pub returns : goal.returns
returns c = record { rise = instants_rise; before = instants_before }
