-- Worked cases of what is read of a model's text.
use Rattle.std.specs.Prelude.{◌≡◌, ℕ, ℤ, pos, negsuc, true, List, [], ◌∷◌, replicate, Some, None, codes, refl}
use Rattle.std.specs.Str.{chars}
use Rattle.aerie_base.specs.declared.expressions.Comparison.TheVariants as comparison
use Rattle.aerie_base.specs.declared.expressions.Operator.{Operator}
use Rattle.aerie_base.specs.declared.expressions.Operator.TheVariants as operator
use Rattle.aerie_base.specs.declared.places.Place.{Place}
use Rattle.readers.specs.declared.limits.Limit.{Limit}
use Rattle.readers.specs.declared.limits.Limit.TheVariants.{Depth, Statements, Variants}
use Rattle.readers.specs.Lists.{one_more_at}
use Rattle.readers.specs.Marks.{Mark}
use Rattle.aerie_text.specs.declared.sorts.Sort.TheVariants as sort
use Rattle.readers.specs.Marks.{marks_in}
use Rattle.aerie_text.specs.Numerals.{digits_at}
use Rattle.aerie_text.specs.Sorts.{symbol_sort, word_sort}
use Rattle.aerie_text.specs.Symbols.{symbol_len}
use Rattle.aerie_text.specs.TokenAt.{token_at}
use Rattle.aerie_text.specs.Tokens.{tokens_of, tokens_from}
use Rattle.readers.specs.Parsed.{Parsed, parsed, failed, over_limit}
use Rattle.model_reader.specs.declared.raw.expressions.RawExpr.{RawExpr}
use Rattle.model_reader.specs.declared.raw.expressions.RawExprKind.{RawExprKind, Literal, Read as Look, Negate, Binary}
use Rattle.model_reader.specs.declared.raw.literals.RawLiteral.{RawLiteral}
use Rattle.model_reader.specs.declared.raw.literals.RawLiteralKind.TheVariants as literal
use Rattle.model_reader.specs.declared.raw.names.RawName.{RawName}
use Rattle.model_reader.specs.declared.raw.reads.RawPart.TheVariants as part
use Rattle.model_reader.specs.declared.raw.items.RawItem.{RawItem}
use Rattle.model_reader.specs.declared.raw.items.RawItem.TheVariants as item
use Rattle.model_reader.specs.declared.raw.models.RawModel.{RawModel}
use Rattle.model_reader.specs.declared.raw.statements.RawStmt.{RawStmt}
use Rattle.model_reader.specs.declared.raw.statements.RawStmtKind.{RawStmtKind, LetCall, Add, If, While, Return}
use Rattle.model_reader.specs.declared.raw.types.RawType.TheVariants as kind
use Rattle.model_reader.specs.declared.reading.body.Body.{Body}
use Rattle.model_reader.specs.declared.reading.with_height.WithHeight.{WithHeight}
use Rattle.model_reader.specs.reading.Expressions.{whole_at, amount_leaf_at, truth_leaf_at, variant_at, part_read_at, dotted_member_at, member_at, named_at, parentheses_at, parenthesis_at, primary_at, unary_sign_at, signed_at, unary_at, operand_at, operated_at, operation_at, chain_at, product_sign_at, product_at, sum_sign_at, sum_at, compare_sign_at, comparison_at, conjunction_at, disjunction_at, expr_at}
use Rattle.model_reader.specs.reading.Names.{raw_name_at, standing_for, one_standing_for}
use Rattle.model_reader.specs.reading.Literals.{minus_at, sign_at, int_at, amount_at, amount_literal_at, truth_literal_at, variant_literal_at, literal_at}
use Rattle.model_reader.specs.reading.Types.{named_type_at, type_at, part_at, dotted_part_at, read_part_at, read_at}
use Rattle.model_reader.specs.reading.Statements.{argument_at, invoke_at, let_call_at, let_expr_at, let_value_at, let_at, part_change_word_at, part_change_at, change_sign_at, change_at, delay_at, wait_at, start_word_at, start_at, some_expr_at, optional_expr_at, return_at, opened_block_at, block_at, else_block_at, else_at, choice_at, if_at, while_at, simple_at, simple_iteration_at, stmt_at, stmt_iteration_at, stmts_by, stmts_at, body_at}
use Rattle.model_reader.specs.reading.Items.{most_variants, variants_at, enum_at, counter_at, register_at, int_literal_at, accumulator_at, discrete_at, linear_at, given_default_at, default_at, param_at, params_at, given_result_at, result_at, require_at, requires_at, activity_body_at, activity_at, daemon_at, declared_at, iteration_at, cell_at, resource_at, item_at, items_at}
use Rattle.model_reader.specs.reading.Models.{model_at}

-- what is read, and the columns of the marks that are left
pub data Outcome (A : Type 0) : Type 0 where
  gives : A → List ℕ → Outcome A
  stops : List ℕ → Outcome A
  passes : Limit → List ℕ → Outcome A

abbrev pub columns : List Mark → List ℕ
columns [] = []
columns (mark ∷ rest) = mark.at.column ∷ columns rest

abbrev pub outcome : {A : Type 0} → Parsed A → Outcome A
outcome (parsed part rest) = gives part (columns rest)
outcome (failed rest) = stops (columns rest)
outcome (over_limit limit rest) = passes limit (columns rest)

abbrev pub at : ℕ → Place
at column = record { line = 1; column = column }

abbrev pub named : ℕ → List ℕ → RawName
named column name = record { at = at column; name = name }

-- ---- numbers and literals

pub negative_int : outcome (int_at (marks_in (codes "- 5;"))) ≡ gives (at 1, negsuc 4) (4 ∷ [])
unfolding minus_at sign_at int_at amount_at amount_literal_at truth_literal_at variant_literal_at literal_at tokens_of tokens_from token_at digits_at symbol_len chars word_sort symbol_sort
negative_int = refl

pub no_int : outcome (int_at (marks_in (codes "-x"))) ≡ stops (2 ∷ [])
unfolding minus_at sign_at int_at amount_at amount_literal_at truth_literal_at variant_literal_at literal_at tokens_of tokens_from token_at digits_at symbol_len chars word_sort symbol_sort
no_int = refl

abbrev pub literal_in : List ℕ → Outcome RawLiteral
literal_in text = outcome (literal_at (marks_in text))

pub duration_literal : literal_in (codes " -2ms)") ≡ gives (record { at = at 2; what = literal.Number (negsuc 1_999) }) (6 ∷ [])
unfolding raw_name_at one_standing_for standing_for minus_at sign_at int_at amount_at amount_literal_at truth_literal_at variant_literal_at literal_at tokens_of tokens_from token_at digits_at symbol_len chars word_sort symbol_sort
duration_literal = refl

pub truth_literal : literal_in (codes "true") ≡ gives (record { at = at 1; what = literal.Truth true }) []
unfolding raw_name_at one_standing_for standing_for minus_at sign_at int_at amount_at amount_literal_at truth_literal_at variant_literal_at literal_at tokens_of tokens_from token_at digits_at symbol_len chars word_sort symbol_sort
truth_literal = refl

pub variant_literal : literal_in (codes "Mode.SAFE;") ≡ gives (record { at = at 1; what = literal.Variant (named 1 (codes "Mode")) (named 6 (codes "SAFE")) }) (10 ∷ [])
unfolding raw_name_at one_standing_for standing_for minus_at sign_at int_at amount_at amount_literal_at truth_literal_at variant_literal_at literal_at tokens_of tokens_from token_at digits_at symbol_len chars word_sort symbol_sort
variant_literal = refl

pub half_a_variant : literal_in (codes "Mode;") ≡ stops (5 ∷ [])
unfolding raw_name_at one_standing_for standing_for minus_at sign_at int_at amount_at amount_literal_at truth_literal_at variant_literal_at literal_at tokens_of tokens_from token_at digits_at symbol_len chars word_sort symbol_sort
half_a_variant = refl

-- ---- expressions

-- an expression and its height, where so many levels may be opened
abbrev pub whole_in : ℕ → List ℕ → Outcome WithHeight
whole_in room text = outcome (whole_at room (marks_in text))

abbrev pub with_height : RawExpr → ℕ → WithHeight
with_height expr height = record { expr = expr; height = height }

abbrev pub expr : ℕ → RawExprKind → RawExpr
expr column what = record { at = at column; what = what }

-- a read of a local or a cell
abbrev pub look : ℕ → List ℕ → RawExpr
look column name = expr column (Look (record { name = named column name; part = part.Whole }))

abbrev pub number : ℕ → ℤ → RawExpr
number column value = expr column (Literal (literal.Number value))

abbrev pub binary : Operator → RawExpr → RawExpr → RawExpr
binary operator left right = record { at = left.at; what = Binary operator left right }

pub a_product_in_a_sum : whole_in 2 (codes "a + b * 2;") ≡ gives (with_height (binary operator.Plus (look 1 (codes "a")) (binary operator.Times (look 5 (codes "b")) (number 9 (pos 2)))) 2) (10 ∷ [])
unfolding raw_name_at one_standing_for standing_for minus_at sign_at int_at amount_at amount_literal_at truth_literal_at variant_literal_at literal_at named_type_at type_at part_at dotted_part_at read_part_at read_at amount_leaf_at truth_leaf_at variant_at part_read_at dotted_member_at member_at named_at parentheses_at parenthesis_at primary_at unary_sign_at signed_at unary_at operand_at operated_at operation_at chain_at product_sign_at product_at sum_sign_at sum_at compare_sign_at comparison_at conjunction_at disjunction_at expr_at tokens_of tokens_from token_at digits_at symbol_len chars word_sort symbol_sort
a_product_in_a_sum = refl

pub a_sum_of_products : whole_in 2 (codes "a * b + 2") ≡ gives (with_height (binary operator.Plus (binary operator.Times (look 1 (codes "a")) (look 5 (codes "b"))) (number 9 (pos 2))) 2) []
unfolding raw_name_at one_standing_for standing_for minus_at sign_at int_at amount_at amount_literal_at truth_literal_at variant_literal_at literal_at named_type_at type_at part_at dotted_part_at read_part_at read_at amount_leaf_at truth_leaf_at variant_at part_read_at dotted_member_at member_at named_at parentheses_at parenthesis_at primary_at unary_sign_at signed_at unary_at operand_at operated_at operation_at chain_at product_sign_at product_at sum_sign_at sum_at compare_sign_at comparison_at conjunction_at disjunction_at expr_at tokens_of tokens_from token_at digits_at symbol_len chars word_sort symbol_sort
a_sum_of_products = refl

-- operators of one line group to the left, and each opens a level
pub a_chain : whole_in 2 (codes "a + b + c") ≡ gives (with_height (binary operator.Plus (binary operator.Plus (look 1 (codes "a")) (look 5 (codes "b"))) (look 9 (codes "c"))) 2) []
unfolding raw_name_at one_standing_for standing_for minus_at sign_at int_at amount_at amount_literal_at truth_literal_at variant_literal_at literal_at named_type_at type_at part_at dotted_part_at read_part_at read_at amount_leaf_at truth_leaf_at variant_at part_read_at dotted_member_at member_at named_at parentheses_at parenthesis_at primary_at unary_sign_at signed_at unary_at operand_at operated_at operation_at chain_at product_sign_at product_at sum_sign_at sum_at compare_sign_at comparison_at conjunction_at disjunction_at expr_at tokens_of tokens_from token_at digits_at symbol_len chars word_sort symbol_sort
a_chain = refl

pub a_chain_too_deep : whole_in 1 (codes "a + b + c") ≡ passes Depth (7 ∷ 9 ∷ [])
unfolding raw_name_at one_standing_for standing_for minus_at sign_at int_at amount_at amount_literal_at truth_literal_at variant_literal_at literal_at named_type_at type_at part_at dotted_part_at read_part_at read_at amount_leaf_at truth_leaf_at variant_at part_read_at dotted_member_at member_at named_at parentheses_at parenthesis_at primary_at unary_sign_at signed_at unary_at operand_at operated_at operation_at chain_at product_sign_at product_at sum_sign_at sum_at compare_sign_at comparison_at conjunction_at disjunction_at expr_at tokens_of tokens_from token_at digits_at symbol_len chars word_sort symbol_sort
a_chain_too_deep = refl

-- the operator that opens the second level is the sum's here, and the product's there
pub a_sum_too_deep : whole_in 1 (codes "a * b + c") ≡ passes Depth (7 ∷ 9 ∷ [])
unfolding raw_name_at one_standing_for standing_for minus_at sign_at int_at amount_at amount_literal_at truth_literal_at variant_literal_at literal_at named_type_at type_at part_at dotted_part_at read_part_at read_at amount_leaf_at truth_leaf_at variant_at part_read_at dotted_member_at member_at named_at parentheses_at parenthesis_at primary_at unary_sign_at signed_at unary_at operand_at operated_at operation_at chain_at product_sign_at product_at sum_sign_at sum_at compare_sign_at comparison_at conjunction_at disjunction_at expr_at tokens_of tokens_from token_at digits_at symbol_len chars word_sort symbol_sort
a_sum_too_deep = refl

pub a_product_too_deep : whole_in 1 (codes "a + b * c") ≡ passes Depth (7 ∷ 9 ∷ [])
unfolding raw_name_at one_standing_for standing_for minus_at sign_at int_at amount_at amount_literal_at truth_literal_at variant_literal_at literal_at named_type_at type_at part_at dotted_part_at read_part_at read_at amount_leaf_at truth_leaf_at variant_at part_read_at dotted_member_at member_at named_at parentheses_at parenthesis_at primary_at unary_sign_at signed_at unary_at operand_at operated_at operation_at chain_at product_sign_at product_at sum_sign_at sum_at compare_sign_at comparison_at conjunction_at disjunction_at expr_at tokens_of tokens_from token_at digits_at symbol_len chars word_sort symbol_sort
a_product_too_deep = refl

-- parentheses leave no trace but the place, and open a level
pub parentheses : whole_in 2 (codes "(a) - -b;") ≡ gives (with_height (binary operator.Minus (expr 1 (look 2 (codes "a")).what) (expr 7 (Negate (look 8 (codes "b"))))) 2) (9 ∷ [])
unfolding raw_name_at one_standing_for standing_for minus_at sign_at int_at amount_at amount_literal_at truth_literal_at variant_literal_at literal_at named_type_at type_at part_at dotted_part_at read_part_at read_at amount_leaf_at truth_leaf_at variant_at part_read_at dotted_member_at member_at named_at parentheses_at parenthesis_at primary_at unary_sign_at signed_at unary_at operand_at operated_at operation_at chain_at product_sign_at product_at sum_sign_at sum_at compare_sign_at comparison_at conjunction_at disjunction_at expr_at tokens_of tokens_from token_at digits_at symbol_len chars word_sort symbol_sort
parentheses = refl

pub parentheses_too_deep : whole_in 0 (codes "(a)") ≡ passes Depth (1 ∷ 2 ∷ 3 ∷ [])
unfolding raw_name_at one_standing_for standing_for minus_at sign_at int_at amount_at amount_literal_at truth_literal_at variant_literal_at literal_at named_type_at type_at part_at dotted_part_at read_part_at read_at amount_leaf_at truth_leaf_at variant_at part_read_at dotted_member_at member_at named_at parentheses_at parenthesis_at primary_at unary_sign_at signed_at unary_at operand_at operated_at operation_at chain_at product_sign_at product_at sum_sign_at sum_at compare_sign_at comparison_at conjunction_at disjunction_at expr_at tokens_of tokens_from token_at digits_at symbol_len chars word_sort symbol_sort
parentheses_too_deep = refl

-- a comparison takes one sign
pub two_comparisons : whole_in 9 (codes "a < b < c") ≡ gives (with_height (binary (operator.Compare comparison.Less) (look 1 (codes "a")) (look 5 (codes "b"))) 1) (7 ∷ 9 ∷ [])
unfolding raw_name_at one_standing_for standing_for minus_at sign_at int_at amount_at amount_literal_at truth_literal_at variant_literal_at literal_at named_type_at type_at part_at dotted_part_at read_part_at read_at amount_leaf_at truth_leaf_at variant_at part_read_at dotted_member_at member_at named_at parentheses_at parenthesis_at primary_at unary_sign_at signed_at unary_at operand_at operated_at operation_at chain_at product_sign_at product_at sum_sign_at sum_at compare_sign_at comparison_at conjunction_at disjunction_at expr_at tokens_of tokens_from token_at digits_at symbol_len chars word_sort symbol_sort
two_comparisons = refl

pub an_operand_is_missing : whole_in 9 (codes "!a && ;") ≡ stops (7 ∷ [])
unfolding raw_name_at one_standing_for standing_for minus_at sign_at int_at amount_at amount_literal_at truth_literal_at variant_literal_at literal_at named_type_at type_at part_at dotted_part_at read_part_at read_at amount_leaf_at truth_leaf_at variant_at part_read_at dotted_member_at member_at named_at parentheses_at parenthesis_at primary_at unary_sign_at signed_at unary_at operand_at operated_at operation_at chain_at product_sign_at product_at sum_sign_at sum_at compare_sign_at comparison_at conjunction_at disjunction_at expr_at tokens_of tokens_from token_at digits_at symbol_len chars word_sort symbol_sort
an_operand_is_missing = refl

-- ---- statements

abbrev pub body : List RawStmt → ℕ → Body
body stmts spare = record { stmts = stmts; spare = spare }

abbrev pub statement : ℕ → RawStmtKind → RawStmt
statement column what = record { at = at column; what = what }

-- the statements of a block, of which and of whose blocks so many may stand inside one another, and there may be so many
abbrev pub stmts_in : ℕ → ℕ → List ℕ → Outcome Body
stmts_in room spare text = outcome (stmts_at room spare (marks_in text))

pub a_change : stmts_in 0 9 (codes "n += 1; }") ≡ gives (body (statement 1 (Add (named 1 (codes "n")) (number 6 (pos 1))) ∷ []) 8) (9 ∷ [])
unfolding raw_name_at one_standing_for standing_for minus_at sign_at int_at amount_at amount_literal_at truth_literal_at variant_literal_at literal_at named_type_at type_at part_at dotted_part_at read_part_at read_at amount_leaf_at truth_leaf_at variant_at part_read_at dotted_member_at member_at named_at parentheses_at parenthesis_at primary_at unary_sign_at signed_at unary_at operand_at operated_at operation_at chain_at product_sign_at product_at sum_sign_at sum_at compare_sign_at comparison_at conjunction_at disjunction_at expr_at argument_at invoke_at let_call_at let_expr_at let_value_at let_at part_change_word_at part_change_at change_sign_at change_at delay_at wait_at start_word_at start_at some_expr_at optional_expr_at return_at opened_block_at block_at else_block_at else_at choice_at if_at while_at simple_at simple_iteration_at stmt_at stmt_iteration_at stmts_by body_at tokens_of tokens_from token_at digits_at symbol_len chars word_sort symbol_sort
a_change = refl

pub a_child : stmts_in 0 9 (codes "let x = call A(p = 1);") ≡ gives (body (statement 1 (LetCall (named 5 (codes "x")) (record { name = named 14 (codes "A"); arguments = (named 16 (codes "p"), number 20 (pos 1)) ∷ [] })) ∷ []) 8) []
unfolding raw_name_at one_standing_for standing_for minus_at sign_at int_at amount_at amount_literal_at truth_literal_at variant_literal_at literal_at named_type_at type_at part_at dotted_part_at read_part_at read_at amount_leaf_at truth_leaf_at variant_at part_read_at dotted_member_at member_at named_at parentheses_at parenthesis_at primary_at unary_sign_at signed_at unary_at operand_at operated_at operation_at chain_at product_sign_at product_at sum_sign_at sum_at compare_sign_at comparison_at conjunction_at disjunction_at expr_at argument_at invoke_at let_call_at let_expr_at let_value_at let_at part_change_word_at part_change_at change_sign_at change_at delay_at wait_at start_word_at start_at some_expr_at optional_expr_at return_at opened_block_at block_at else_block_at else_at choice_at if_at while_at simple_at simple_iteration_at stmt_at stmt_iteration_at stmts_by body_at tokens_of tokens_from token_at digits_at symbol_len chars word_sort symbol_sort
a_child = refl

-- the statements of a block are counted with the body's
pub a_loop : stmts_in 1 2 (codes "while x { return; }") ≡ gives (body (statement 1 (While (look 7 (codes "x")) (statement 11 (Return None) ∷ [])) ∷ []) 0) []
unfolding raw_name_at one_standing_for standing_for minus_at sign_at int_at amount_at amount_literal_at truth_literal_at variant_literal_at literal_at named_type_at type_at part_at dotted_part_at read_part_at read_at amount_leaf_at truth_leaf_at variant_at part_read_at dotted_member_at member_at named_at parentheses_at parenthesis_at primary_at unary_sign_at signed_at unary_at operand_at operated_at operation_at chain_at product_sign_at product_at sum_sign_at sum_at compare_sign_at comparison_at conjunction_at disjunction_at expr_at argument_at invoke_at let_call_at let_expr_at let_value_at let_at part_change_word_at part_change_at change_sign_at change_at delay_at wait_at start_word_at start_at some_expr_at optional_expr_at return_at opened_block_at block_at else_block_at else_at choice_at if_at while_at simple_at simple_iteration_at stmt_at stmt_iteration_at stmts_by body_at tokens_of tokens_from token_at digits_at symbol_len chars word_sort symbol_sort
a_loop = refl

pub one_statement_too_many : stmts_in 1 1 (codes "while x { return; }") ≡ passes Statements (11 ∷ 17 ∷ 19 ∷ [])
unfolding raw_name_at one_standing_for standing_for minus_at sign_at int_at amount_at amount_literal_at truth_literal_at variant_literal_at literal_at named_type_at type_at part_at dotted_part_at read_part_at read_at amount_leaf_at truth_leaf_at variant_at part_read_at dotted_member_at member_at named_at parentheses_at parenthesis_at primary_at unary_sign_at signed_at unary_at operand_at operated_at operation_at chain_at product_sign_at product_at sum_sign_at sum_at compare_sign_at comparison_at conjunction_at disjunction_at expr_at argument_at invoke_at let_call_at let_expr_at let_value_at let_at part_change_word_at part_change_at change_sign_at change_at delay_at wait_at start_word_at start_at some_expr_at optional_expr_at return_at opened_block_at block_at else_block_at else_at choice_at if_at while_at simple_at simple_iteration_at stmt_at stmt_iteration_at stmts_by body_at tokens_of tokens_from token_at digits_at symbol_len chars word_sort symbol_sort
one_statement_too_many = refl

pub a_block_too_deep : stmts_in 0 9 (codes "while x { return; }") ≡ passes Depth (9 ∷ 11 ∷ 17 ∷ 19 ∷ [])
unfolding raw_name_at one_standing_for standing_for minus_at sign_at int_at amount_at amount_literal_at truth_literal_at variant_literal_at literal_at named_type_at type_at part_at dotted_part_at read_part_at read_at amount_leaf_at truth_leaf_at variant_at part_read_at dotted_member_at member_at named_at parentheses_at parenthesis_at primary_at unary_sign_at signed_at unary_at operand_at operated_at operation_at chain_at product_sign_at product_at sum_sign_at sum_at compare_sign_at comparison_at conjunction_at disjunction_at expr_at argument_at invoke_at let_call_at let_expr_at let_value_at let_at part_change_word_at part_change_at change_sign_at change_at delay_at wait_at start_word_at start_at some_expr_at optional_expr_at return_at opened_block_at block_at else_block_at else_at choice_at if_at while_at simple_at simple_iteration_at stmt_at stmt_iteration_at stmts_by body_at tokens_of tokens_from token_at digits_at symbol_len chars word_sort symbol_sort
a_block_too_deep = refl

pub a_choice : stmts_in 1 9 (codes "if x { } else { } return 1;") ≡ gives (body (statement 1 (If (look 4 (codes "x")) [] []) ∷ statement 19 (Return (Some (number 26 (pos 1)))) ∷ []) 7) []
unfolding raw_name_at one_standing_for standing_for minus_at sign_at int_at amount_at amount_literal_at truth_literal_at variant_literal_at literal_at named_type_at type_at part_at dotted_part_at read_part_at read_at amount_leaf_at truth_leaf_at variant_at part_read_at dotted_member_at member_at named_at parentheses_at parenthesis_at primary_at unary_sign_at signed_at unary_at operand_at operated_at operation_at chain_at product_sign_at product_at sum_sign_at sum_at compare_sign_at comparison_at conjunction_at disjunction_at expr_at argument_at invoke_at let_call_at let_expr_at let_value_at let_at part_change_word_at part_change_at change_sign_at change_at delay_at wait_at start_word_at start_at some_expr_at optional_expr_at return_at opened_block_at block_at else_block_at else_at choice_at if_at while_at simple_at simple_iteration_at stmt_at stmt_iteration_at stmts_by body_at tokens_of tokens_from token_at digits_at symbol_len chars word_sort symbol_sort
a_choice = refl

-- ---- items and models

abbrev pub items_in : List ℕ → Outcome (List RawItem)
items_in text = outcome (items_at (marks_in text))

pub an_enumeration : items_in (codes "enum M { A, B }") ≡ gives (item.Enum (named 6 (codes "M")) (named 10 (codes "A") ∷ named 13 (codes "B") ∷ []) ∷ []) []
unfolding raw_name_at one_standing_for standing_for minus_at sign_at int_at amount_at amount_literal_at truth_literal_at variant_literal_at literal_at named_type_at type_at part_at dotted_part_at read_part_at read_at amount_leaf_at truth_leaf_at variant_at part_read_at dotted_member_at member_at named_at parentheses_at parenthesis_at primary_at unary_sign_at signed_at unary_at operand_at operated_at operation_at chain_at product_sign_at product_at sum_sign_at sum_at compare_sign_at comparison_at conjunction_at disjunction_at expr_at argument_at invoke_at let_call_at let_expr_at let_value_at let_at part_change_word_at part_change_at change_sign_at change_at delay_at wait_at start_word_at start_at some_expr_at optional_expr_at return_at opened_block_at block_at else_block_at else_at choice_at if_at while_at simple_at simple_iteration_at stmt_at stmt_iteration_at stmts_by body_at variants_at enum_at counter_at register_at int_literal_at accumulator_at discrete_at linear_at given_default_at default_at param_at params_at given_result_at result_at require_at requires_at activity_body_at activity_at daemon_at declared_at iteration_at cell_at resource_at item_at items_at tokens_of tokens_from token_at digits_at symbol_len chars word_sort symbol_sort
an_enumeration = refl

pub an_accumulator : items_in (codes "accumulator e = 5 rate -2; }") ≡ gives (item.Accumulator (named 13 (codes "e")) (pos 5) (record { at = at 24; what = literal.Number (negsuc 1) }) ∷ []) (28 ∷ [])
unfolding raw_name_at one_standing_for standing_for minus_at sign_at int_at amount_at amount_literal_at truth_literal_at variant_literal_at literal_at named_type_at type_at part_at dotted_part_at read_part_at read_at amount_leaf_at truth_leaf_at variant_at part_read_at dotted_member_at member_at named_at parentheses_at parenthesis_at primary_at unary_sign_at signed_at unary_at operand_at operated_at operation_at chain_at product_sign_at product_at sum_sign_at sum_at compare_sign_at comparison_at conjunction_at disjunction_at expr_at argument_at invoke_at let_call_at let_expr_at let_value_at let_at part_change_word_at part_change_at change_sign_at change_at delay_at wait_at start_word_at start_at some_expr_at optional_expr_at return_at opened_block_at block_at else_block_at else_at choice_at if_at while_at simple_at simple_iteration_at stmt_at stmt_iteration_at stmts_by body_at variants_at enum_at counter_at register_at int_literal_at accumulator_at discrete_at linear_at given_default_at default_at param_at params_at given_result_at result_at require_at requires_at activity_body_at activity_at daemon_at declared_at iteration_at cell_at resource_at item_at items_at tokens_of tokens_from token_at digits_at symbol_len chars word_sort symbol_sort
an_accumulator = refl

pub a_parameter_is_missing : items_in (codes "activity A(p: int, ) { }") ≡ stops (20 ∷ 22 ∷ 24 ∷ [])
unfolding raw_name_at one_standing_for standing_for minus_at sign_at int_at amount_at amount_literal_at truth_literal_at variant_literal_at literal_at named_type_at type_at part_at dotted_part_at read_part_at read_at amount_leaf_at truth_leaf_at variant_at part_read_at dotted_member_at member_at named_at parentheses_at parenthesis_at primary_at unary_sign_at signed_at unary_at operand_at operated_at operation_at chain_at product_sign_at product_at sum_sign_at sum_at compare_sign_at comparison_at conjunction_at disjunction_at expr_at argument_at invoke_at let_call_at let_expr_at let_value_at let_at part_change_word_at part_change_at change_sign_at change_at delay_at wait_at start_word_at start_at some_expr_at optional_expr_at return_at opened_block_at block_at else_block_at else_at choice_at if_at while_at simple_at simple_iteration_at stmt_at stmt_iteration_at stmts_by body_at variants_at enum_at counter_at register_at int_literal_at accumulator_at discrete_at linear_at given_default_at default_at param_at params_at given_result_at result_at require_at requires_at activity_body_at activity_at daemon_at declared_at iteration_at cell_at resource_at item_at items_at tokens_of tokens_from token_at digits_at symbol_len chars word_sort symbol_sort
a_parameter_is_missing = refl

-- an enumeration that has as many variants as may be
abbrev pub many_names : ℕ → List RawName
many_names count = replicate count (named 1 (codes "A"))

pub one_variant_too_many : outcome (one_more_at sort.Name most_variants raw_name_at (many_names 256) (marks_in (codes "A"))) ≡ passes Variants (1 ∷ [])
unfolding raw_name_at one_standing_for standing_for minus_at sign_at int_at amount_at amount_literal_at truth_literal_at variant_literal_at literal_at named_type_at type_at part_at dotted_part_at read_part_at read_at amount_leaf_at truth_leaf_at variant_at part_read_at dotted_member_at member_at named_at parentheses_at parenthesis_at primary_at unary_sign_at signed_at unary_at operand_at operated_at operation_at chain_at product_sign_at product_at sum_sign_at sum_at compare_sign_at comparison_at conjunction_at disjunction_at expr_at argument_at invoke_at let_call_at let_expr_at let_value_at let_at part_change_word_at part_change_at change_sign_at change_at delay_at wait_at start_word_at start_at some_expr_at optional_expr_at return_at opened_block_at block_at else_block_at else_at choice_at if_at while_at simple_at simple_iteration_at stmt_at stmt_iteration_at stmts_by body_at variants_at enum_at counter_at register_at int_literal_at accumulator_at discrete_at linear_at given_default_at default_at param_at params_at given_result_at result_at require_at requires_at activity_body_at activity_at daemon_at declared_at iteration_at cell_at resource_at item_at items_at tokens_of tokens_from token_at digits_at symbol_len chars word_sort symbol_sort
one_variant_too_many = refl

abbrev pub model_in : List ℕ → Outcome RawModel
model_in text = outcome (model_at (marks_in text))

pub a_model : model_in (codes "model m { counter n = 0; activity A(by: int) { n += by; } } plan")
    ≡ gives (record {
      name = named 7 (codes "m");
      items =
          item.Counter (named 19 (codes "n")) (pos 0)
          ∷ item.Activity (named 35 (codes "A")) (record { name = named 37 (codes "by"); kind = kind.Int; default = None } ∷ []) None []
          (statement 48 (Add (named 48 (codes "n")) (look 53 (codes "by"))) ∷ [])
          ∷ [];
    }) (61 ∷ [])
unfolding raw_name_at one_standing_for standing_for minus_at sign_at int_at amount_at amount_literal_at truth_literal_at variant_literal_at literal_at named_type_at type_at part_at dotted_part_at read_part_at read_at amount_leaf_at truth_leaf_at variant_at part_read_at dotted_member_at member_at named_at parentheses_at parenthesis_at primary_at unary_sign_at signed_at unary_at operand_at operated_at operation_at chain_at product_sign_at product_at sum_sign_at sum_at compare_sign_at comparison_at conjunction_at disjunction_at expr_at argument_at invoke_at let_call_at let_expr_at let_value_at let_at part_change_word_at part_change_at change_sign_at change_at delay_at wait_at start_word_at start_at some_expr_at optional_expr_at return_at opened_block_at block_at else_block_at else_at choice_at if_at while_at simple_at simple_iteration_at stmt_at stmt_iteration_at stmts_by body_at variants_at enum_at counter_at register_at int_literal_at accumulator_at discrete_at linear_at given_default_at default_at param_at params_at given_result_at result_at require_at requires_at activity_body_at activity_at daemon_at declared_at iteration_at cell_at resource_at item_at items_at model_at tokens_of tokens_from token_at digits_at symbol_len chars word_sort symbol_sort
a_model = refl

-- an item's first word is wanted, or the brace that closes the model
pub no_item : model_in (codes "model m { counters n; }") ≡ stops (11 ∷ 20 ∷ 21 ∷ 23 ∷ [])
unfolding raw_name_at one_standing_for standing_for minus_at sign_at int_at amount_at amount_literal_at truth_literal_at variant_literal_at literal_at named_type_at type_at part_at dotted_part_at read_part_at read_at amount_leaf_at truth_leaf_at variant_at part_read_at dotted_member_at member_at named_at parentheses_at parenthesis_at primary_at unary_sign_at signed_at unary_at operand_at operated_at operation_at chain_at product_sign_at product_at sum_sign_at sum_at compare_sign_at comparison_at conjunction_at disjunction_at expr_at argument_at invoke_at let_call_at let_expr_at let_value_at let_at part_change_word_at part_change_at change_sign_at change_at delay_at wait_at start_word_at start_at some_expr_at optional_expr_at return_at opened_block_at block_at else_block_at else_at choice_at if_at while_at simple_at simple_iteration_at stmt_at stmt_iteration_at stmts_by body_at variants_at enum_at counter_at register_at int_literal_at accumulator_at discrete_at linear_at given_default_at default_at param_at params_at given_result_at result_at require_at requires_at activity_body_at activity_at daemon_at declared_at iteration_at cell_at resource_at item_at items_at model_at tokens_of tokens_from token_at digits_at symbol_len chars word_sort symbol_sort
no_item = refl

pub an_open_model : model_in (codes "model m { counter n = 0;") ≡ stops []
unfolding raw_name_at one_standing_for standing_for minus_at sign_at int_at amount_at amount_literal_at truth_literal_at variant_literal_at literal_at named_type_at type_at part_at dotted_part_at read_part_at read_at amount_leaf_at truth_leaf_at variant_at part_read_at dotted_member_at member_at named_at parentheses_at parenthesis_at primary_at unary_sign_at signed_at unary_at operand_at operated_at operation_at chain_at product_sign_at product_at sum_sign_at sum_at compare_sign_at comparison_at conjunction_at disjunction_at expr_at argument_at invoke_at let_call_at let_expr_at let_value_at let_at part_change_word_at part_change_at change_sign_at change_at delay_at wait_at start_word_at start_at some_expr_at optional_expr_at return_at opened_block_at block_at else_block_at else_at choice_at if_at while_at simple_at simple_iteration_at stmt_at stmt_iteration_at stmts_by body_at variants_at enum_at counter_at register_at int_literal_at accumulator_at discrete_at linear_at given_default_at default_at param_at params_at given_result_at result_at require_at requires_at activity_body_at activity_at daemon_at declared_at iteration_at cell_at resource_at item_at items_at model_at tokens_of tokens_from token_at digits_at symbol_len chars word_sort symbol_sort
an_open_model = refl
