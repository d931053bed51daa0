use Rattle.run_data.proofs.AlikeSteps.{next_is_alike}
use Rattle.run_data.proofs.laws.alike.alike_states_go_on_alike.Goals as goal

pub returns : goal.returns
returns c = next_is_alike
