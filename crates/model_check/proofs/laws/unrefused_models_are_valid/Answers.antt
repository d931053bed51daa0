use Rattle.model_check.proofs.Sound.Models.{is_valid}
use Rattle.model_check.proofs.laws.unrefused_models_are_valid.Goals as goal

pub returns : goal.returns
returns c = is_valid
