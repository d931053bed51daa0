use Rattle.model_check.specs.ModelDiagnostics.{model_diagnostics}
use Rattle.model_check.proofs.laws.the_first_comes_first.Goals as goal

pub returns : goal.returns
returns c raw first e = c.the_first_is_told.ensures (model_diagnostics raw) first e
