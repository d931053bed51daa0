use Rattle.run_data.proofs.ReachedStates.{reached_is_of_model}
use Rattle.run_data.proofs.laws.reached.reached_states_are_of_the_model.Goals as goal

pub returns : goal.returns
returns c = reached_is_of_model
