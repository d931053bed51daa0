use Rattle.run_data.proofs.InTurn.{effects_in_turn}
use Rattle.run_data.proofs.laws.steps.effects_in_turn.Goals as goal

pub returns : goal.returns
returns c = effects_in_turn
