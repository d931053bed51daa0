-- In the factored grammar of rules one token of lookahead decides.
use Rattle.std.proofs.Common.{IsTrue, refl}
use Rattle.aerie_text.specs.Sorts.{number_of}
use Rattle.readers.specs.grammar.Forms.{rule}
use Rattle.readers.specs.grammar.Predictive.{IsPredictive, shallow}
use Rattle.readers.specs.grammar.Tables.{look_by_number, decides, are_right}
use Rattle.readers.proofs.Judged.{predictive_of}
use Rattle.rule_grammar.specs.grammar.Rules.{Rule, constraints_rule}
use Rattle.rule_grammar.specs.grammar.Factored.{tables, look}

-- each for every rule by computation
right : (r : Rule) → IsTrue (are_right number_of tables r)
right constraints_rule = refl
right r = refl

decided : (r : Rule) → IsTrue (decides number_of tables (tables.form r) (tables.follow r))
decided constraints_rule = refl
decided r = refl

shallow_rule : (r : Rule) → IsTrue (shallow (look_by_number number_of tables) tables.openings (rule r))
shallow_rule constraints_rule = refl
shallow_rule r = refl

pub predictive : IsPredictive look
predictive = predictive_of tables (record { right = right; decided = decided; shallow_rule = shallow_rule })
