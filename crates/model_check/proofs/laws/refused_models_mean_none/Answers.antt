use Rattle.model_check.proofs.Answered.{no_answer}
use Rattle.model_check.proofs.laws.refused_models_mean_none.Goals as goal

pub returns : goal.returns
returns c = no_answer
