use Rattle.run_data.proofs.QuietStates.{reached_is_quiet}
use Rattle.run_data.proofs.laws.reached.reached_states_are_quiet.Goals as goal

pub returns : goal.returns
returns c = reached_is_quiet
