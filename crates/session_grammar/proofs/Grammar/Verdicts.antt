-- What is so by the factored grammar of sessions is so by the grammar as it is written.
use Rattle.std.specs.Prelude.{[], ◌∷◌}
use Rattle.readers.specs.grammar.Forms.{rule}
use Rattle.readers.specs.grammar.Lookahead.{answer}
use Rattle.readers.specs.grammar.Tells.{AnswersAreRight}
use Rattle.readers.proofs.Grammars.Alike.{alike_swapped, alike_tells}
use Rattle.readers.proofs.Grammars.Verdicts.{tells}
use Rattle.session_grammar.proofs.Grammar.Alike.{alike}
use Rattle.session_grammar.proofs.Grammar.Predictive.{predictive}
use Rattle.session_grammar.specs.grammar.Factored.{look, factored}
use Rattle.session_grammar.specs.grammar.Rules.{session_rule}
use Rattle.session_grammar.specs.grammar.Written.{written}

pub answers_are_right : AnswersAreRight look session_rule written session_rule
answers_are_right marks =
    alike_tells factored session_rule written session_rule (alike_swapped written session_rule factored session_rule alike) marks
    (answer look (rule session_rule ∷ []) marks) (tells look predictive session_rule marks)
