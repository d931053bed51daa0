use Rattle.model_check.proofs.Answered.{is_meant, is_valid_too}
use Rattle.model_check.proofs.laws.answered_models_are_meant.Goals as goal

pub returns-clause-meant : goal.returns-clause-meant
returns-clause-meant c = is_meant

pub returns-clause-valid : goal.returns-clause-valid
returns-clause-valid c = is_valid_too
