use Rattle.run_data.proofs.ModelSteps.{steps_keep_model}
use Rattle.run_data.proofs.laws.steps.steps_keep_the_model.Goals as goal

pub returns : goal.returns
returns c = steps_keep_model
