-- In the factored grammar of models one token of lookahead decides.
use Rattle.std.proofs.Common.{IsTrue, refl}
use Rattle.aerie_text.specs.Sorts.{number_of}
use Rattle.readers.specs.grammar.Forms.{rule}
use Rattle.readers.specs.grammar.Predictive.{IsPredictive, shallow}
use Rattle.readers.specs.grammar.Tables.{look_by_number, decides, are_right}
use Rattle.readers.proofs.Judged.{predictive_of}
use Rattle.model_reader.specs.grammar.Rules.{Rule, model_rule, item_rule, param_rule, type_rule, int_rule, literal_rule, read_rule, stmt_rule, block_rule, invoke_rule, expr_rule, and_rule, compare_rule, sum_rule, product_rule, unary_rule, primary_rule}
use Rattle.model_reader.specs.grammar.Factored.{tables, look}

right : (r : Rule) → IsTrue (are_right number_of tables r)
right model_rule = refl
right item_rule = refl
right param_rule = refl
right type_rule = refl
right int_rule = refl
right literal_rule = refl
right read_rule = refl
right stmt_rule = refl
right block_rule = refl
right invoke_rule = refl
right expr_rule = refl
right and_rule = refl
right compare_rule = refl
right sum_rule = refl
right product_rule = refl
right unary_rule = refl
right primary_rule = refl

decided : (r : Rule) → IsTrue (decides number_of tables (tables.form r) (tables.follow r))
decided model_rule = refl
decided item_rule = refl
decided param_rule = refl
decided type_rule = refl
decided int_rule = refl
decided literal_rule = refl
decided read_rule = refl
decided stmt_rule = refl
decided block_rule = refl
decided invoke_rule = refl
decided expr_rule = refl
decided and_rule = refl
decided compare_rule = refl
decided sum_rule = refl
decided product_rule = refl
decided unary_rule = refl
decided primary_rule = refl

shallow_rule : (r : Rule) → IsTrue (shallow (look_by_number number_of tables) tables.openings (rule r))
shallow_rule model_rule = refl
shallow_rule item_rule = refl
shallow_rule param_rule = refl
shallow_rule type_rule = refl
shallow_rule int_rule = refl
shallow_rule literal_rule = refl
shallow_rule read_rule = refl
shallow_rule stmt_rule = refl
shallow_rule block_rule = refl
shallow_rule invoke_rule = refl
shallow_rule expr_rule = refl
shallow_rule and_rule = refl
shallow_rule compare_rule = refl
shallow_rule sum_rule = refl
shallow_rule product_rule = refl
shallow_rule unary_rule = refl
shallow_rule primary_rule = refl

pub predictive : IsPredictive look
predictive = predictive_of tables (record { right = right; decided = decided; shallow_rule = shallow_rule })
