use Rattle.session_grammar.proofs.Grammar.Verdicts.{answers_are_right}
use Rattle.session_grammar.proofs.laws.answers_are_right.Goals as goal

pub returns : goal.returns
returns c = answers_are_right
