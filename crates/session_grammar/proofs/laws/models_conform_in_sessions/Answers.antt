-- By the law of models, carried over.
use Rattle.model_reader.specs.grammar.Rules.{model_rule}
use Rattle.model_reader.specs.reading.Models.{model_at}
use Rattle.session_grammar.proofs.Grammar.Models.{in_session_conforms}
use Rattle.session_grammar.proofs.laws.models_conform_in_sessions.Goals as goal

pub returns : goal.returns
returns c marks = in_session_conforms c.one_token_decides.ensures.decides model_rule marks (model_at marks) (c.models_conform.ensures.conforms marks)
