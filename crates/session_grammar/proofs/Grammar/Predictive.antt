-- In the factored grammar of sessions one token of lookahead decides.
use Rattle.std.proofs.Common.{IsTrue, refl}
use Rattle.model_reader.specs.grammar.Rules.{model_rule}
use Rattle.readers.specs.grammar.Forms.{rule}
use Rattle.readers.specs.grammar.Predictive.{IsPredictive, shallow}
use Rattle.readers.specs.grammar.Tables.{look_by_number, decides, are_right}
use Rattle.readers.proofs.Grammars.Classes.{predictive_by_class}
use Rattle.readers.proofs.Grammars.Tables.{predictive_by_tables}
use Rattle.session_grammar.specs.grammar.Factored.{tables, look}
use Rattle.session_grammar.specs.grammar.Rules.{Rule, session_rule, of_model}
use Rattle.session_grammar.specs.grammar.Terminals.{class_of, number_of_terminal}

-- each for every rule by computation
right : (r : Rule) → IsTrue (are_right number_of_terminal tables r)
right session_rule = refl
right (of_model model_rule) = refl
right r = refl

decided : (r : Rule) → IsTrue (decides number_of_terminal tables (tables.form r) (tables.follow r))
decided session_rule = refl
decided (of_model model_rule) = refl
decided r = refl

shallow_rule : (r : Rule) → IsTrue (shallow (look_by_number number_of_terminal tables) tables.openings (rule r))
shallow_rule session_rule = refl
shallow_rule (of_model model_rule) = refl
shallow_rule r = refl

pub predictive : IsPredictive look
predictive =
    predictive_by_class class_of (look_by_number number_of_terminal tables)
    (predictive_by_tables number_of_terminal tables (record { right = right; decided = decided; shallow_rule = shallow_rule }))
