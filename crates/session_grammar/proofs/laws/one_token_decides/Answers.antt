use Rattle.session_grammar.proofs.Grammar.Alike.{alike}
use Rattle.session_grammar.proofs.Grammar.Predictive.{predictive}
use Rattle.session_grammar.proofs.laws.one_token_decides.Goals as goal

pub returns-clause-decides : goal.returns-clause-decides
returns-clause-decides c = predictive

pub returns-clause-alike : goal.returns-clause-alike
returns-clause-alike c = alike
