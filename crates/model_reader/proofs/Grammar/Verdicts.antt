-- What is so by the factored grammar of models is so by the grammar as it is written.
use Rattle.std.specs.Prelude.{List, [], ◌∷◌}
use Rattle.readers.specs.Marks.{Mark}
use Rattle.readers.specs.grammar.Forms.{rule}
use Rattle.readers.specs.grammar.Lookahead.{Answer, answer}
use Rattle.readers.specs.grammar.Tells.{Tells, AnswersAreRight}
use Rattle.readers.proofs.Grammars.Alike.{alike_swapped, alike_tells}
use Rattle.readers.proofs.Grammars.Verdicts.{tells}
use Rattle.model_reader.proofs.Grammar.Alike.{alike}
use Rattle.model_reader.proofs.Grammar.Predictive.{predictive}
use Rattle.model_reader.specs.grammar.Factored.{look, factored}
use Rattle.model_reader.specs.grammar.Rules.{model_rule}
use Rattle.model_reader.specs.grammar.Written.{written}

pub as_written : (marks : List Mark) (a : Answer Mark) → Tells factored model_rule marks a → Tells written model_rule marks a
as_written marks a t = alike_tells factored model_rule written model_rule (alike_swapped written model_rule factored model_rule alike) marks a t

pub answers_are_right : AnswersAreRight look model_rule written model_rule
answers_are_right marks = as_written marks (answer look (rule model_rule ∷ []) marks) (tells look predictive model_rule marks)
