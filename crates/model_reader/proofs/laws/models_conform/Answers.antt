use Rattle.model_reader.proofs.Following.Models.{model_conforms, model_judged, no_model_in_front}
use Rattle.model_reader.proofs.laws.models_conform.Goals as goal

pub returns-clause-conforms : goal.returns-clause-conforms
returns-clause-conforms c = model_conforms

pub returns-clause-judged : goal.returns-clause-judged
returns-clause-judged c = model_judged

pub returns-clause-failed : goal.returns-clause-failed
returns-clause-failed c = no_model_in_front
