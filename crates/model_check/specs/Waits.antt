-- Conditions of `wait until`: what is wrong with one, and what it means.
use Rattle.std.specs.Prelude.{Bool, true, false, List, [], ◌++◌, Option, Some, None}
use Rattle.aerie_base.specs.declared.conditions.Cond.{Cond}
use Rattle.aerie_base.specs.declared.conditions.Cond as cond
use Rattle.aerie_base.specs.declared.conditions.Simple.{Simple}
use Rattle.aerie_base.specs.declared.conditions.Simple.TheVariants as simple
use Rattle.aerie_base.specs.declared.expressions.Comparison.{Comparison}
use Rattle.aerie_base.specs.declared.expressions.Comparison.TheVariants as by
use Rattle.aerie_base.specs.declared.expressions.Operator.{Operator}
use Rattle.aerie_base.specs.declared.expressions.Operator.TheVariants as operator
use Rattle.aerie_base.specs.declared.places.Place.{Place}
use Rattle.aerie_base.specs.declared.values.Kind.{Kind}
use Rattle.aerie_base.specs.declared.values.Kind.TheVariants.{Int, Truth, Enum}
use Rattle.aerie_base.specs.declared.values.Value.TheVariants as value
use Rattle.model_reader.specs.declared.raw.expressions.RawExpr.{RawExpr}
use Rattle.model_reader.specs.declared.raw.expressions.RawExprKind.{RawExprKind, Literal, Read, Not', Negate', Binary'}
use Rattle.model_reader.specs.declared.raw.expressions.RawExprKind.TheOpen.{RawExprKind-F}
use Rattle.model_reader.specs.declared.raw.literals.RawLiteralKind.{RawLiteralKind}
use Rattle.model_reader.specs.declared.raw.literals.RawLiteralKind.TheVariants as literal
use Rattle.model_reader.specs.declared.raw.reads.RawPart.{RawPart}
use Rattle.model_reader.specs.declared.raw.reads.RawPart.TheVariants.{Whole}
use Rattle.model_check.specs.declared.causes.Cause.TheVariants.{NotLinear}
use Rattle.diagnostics.specs.declared.diagnostic.Diagnostic.{Diagnostic}
use Rattle.model_check.specs.declared.causes.Cause.{Cause}
use Rattle.model_check.specs.declared.leaves.FormUse.TheVariants.{Comparison as InComparison}
use Rattle.model_check.specs.declared.scopes.BodyScope.{BodyScope}
use Rattle.model_check.specs.declared.symbols.Symbols.{Symbols}
use Rattle.model_check.specs.CellReads.{raw_read_kind, read_operand}
use Rattle.diagnostics.specs.Diagnostics.{at_place, refused_unless}
use Rattle.model_check.specs.Expressions.{raw_kind, typed_diagnostics}
use Rattle.model_check.specs.LinearForms.{form_diagnostics, linear_of}
use Rattle.model_check.specs.Literals.{literal_kind, literal_value}
use Rattle.model_check.specs.RawExpressions.{RawLevel, raw_gives}

-- ---- sides of an equality

-- what has no type, since its name is unknown, is as it should be
abbrev pub is_side_part : RawPart → Option Kind → Bool
is_side_part Whole kind = true
is_side_part part None = true
is_side_part part (Some kind) = false

-- a literal, a local or a register
abbrev pub is_side : Symbols → BodyScope → RawExprKind → Bool
is_side symbols scope (Literal literal) = true
is_side symbols scope (Read read) = is_side_part read.part (raw_read_kind symbols scope read)
is_side symbols scope (Not' _ _) = false
is_side symbols scope (Negate' _ _) = false
is_side symbols scope (Binary' _ _ _ _ _) = false

abbrev pub side_diagnostics : Symbols → BodyScope → RawExpr → List (Diagnostic Cause)
side_diagnostics symbols scope raw = refused_unless (is_side symbols scope raw.what) NotLinear raw.at

abbrev pub side_of : Symbols → BodyScope → RawExprKind → Simple
side_of symbols scope (Literal literal) = simple.Literal (literal_value symbols.enums literal)
side_of symbols scope (Read read) = simple.Operand (read_operand symbols scope read)
side_of symbols scope (Not' _ _) = simple.Literal (value.Truth false)
side_of symbols scope (Negate' _ _) = simple.Literal (value.Truth false)
side_of symbols scope (Binary' _ _ _ _ _) = simple.Literal (value.Truth false)

-- ---- comparisons

abbrev pub is_int : Option Kind → Bool
is_int None = false
is_int (Some Int) = true
is_int (Some Truth) = false
is_int (Some (Enum number)) = false

-- the type that tells whether numbers are compared: that of the left side, where it has one
abbrev pub are_numbers : Option Kind → Option Kind → Bool
are_numbers None right = is_int right
are_numbers (Some left) right = is_int (Some left)

-- whether a comparison is one of linear forms: an order, or an equality of whole numbers
abbrev pub compares_forms : Comparison → Option Kind → Option Kind → Bool
compares_forms by.Equal left right = are_numbers left right
compares_forms by.Unequal left right = are_numbers left right
compares_forms by.Less left right = true
compares_forms by.AtMost left right = true
compares_forms by.More left right = true
compares_forms by.AtLeast left right = true

abbrev pub is_equal : Comparison → Bool
is_equal by.Equal = true
is_equal by.Unequal = false
is_equal by.Less = false
is_equal by.AtMost = false
is_equal by.More = false
is_equal by.AtLeast = false

-- two linear forms, or two sides of an equality
abbrev pub compared_diagnostics : Symbols → BodyScope → RawExpr → RawExpr → Bool → List (Diagnostic Cause)
compared_diagnostics symbols scope left right true =
    form_diagnostics InComparison symbols scope left ++ form_diagnostics InComparison symbols scope right
compared_diagnostics symbols scope left right false = side_diagnostics symbols scope left ++ side_diagnostics symbols scope right

abbrev pub forms_compared : Symbols → BodyScope → Comparison → RawExpr → RawExpr → Bool
forms_compared symbols scope how left right =
    compares_forms how (raw_kind symbols scope left.what) (raw_kind symbols scope right.what)

abbrev pub compared_of : Symbols → BodyScope → Comparison → RawExpr → RawExpr → Bool → Cond
compared_of symbols scope how left right true =
    cond.Compare (linear_of InComparison symbols scope left) how (linear_of InComparison symbols scope right)
compared_of symbols scope how left right false =
    cond.Same (side_of symbols scope left.what) (side_of symbols scope right.what) (is_equal how)

-- ---- parts that are truths

-- what has no type, since its name is unknown, is as it should be
abbrev pub is_truth : Option Kind → Bool
is_truth None = true
is_truth (Some Int) = false
is_truth (Some Truth) = true
is_truth (Some (Enum number)) = false

abbrev pub literal_truth : RawLiteralKind → Bool
literal_truth (literal.Number number) = false
literal_truth (literal.Truth truth) = truth
literal_truth (literal.Variant kind variant) = false

-- ---- conditions

-- whether an operator joins two conditions, and then whether one of them is enough
abbrev pub junction : Operator → Option Bool
junction operator.Or = Some true
junction operator.And = Some false
junction (operator.Compare how) = None
junction operator.Plus = None
junction operator.Minus = None
junction operator.Times = None
junction operator.Divide = None
junction operator.Remainder = None

-- a comparison is judged by itself; no other operator that joins no conditions makes one
abbrev pub plain_operator_diagnostics : Symbols → BodyScope → Place → Operator → RawExpr → RawExpr → List (Diagnostic Cause)
plain_operator_diagnostics symbols scope at (operator.Compare how) left right =
    compared_diagnostics symbols scope left right (forms_compared symbols scope how left right)
plain_operator_diagnostics symbols scope at operator.Or left right = at_place NotLinear at
plain_operator_diagnostics symbols scope at operator.And left right = at_place NotLinear at
plain_operator_diagnostics symbols scope at operator.Plus left right = at_place NotLinear at
plain_operator_diagnostics symbols scope at operator.Minus left right = at_place NotLinear at
plain_operator_diagnostics symbols scope at operator.Times left right = at_place NotLinear at
plain_operator_diagnostics symbols scope at operator.Divide left right = at_place NotLinear at
plain_operator_diagnostics symbols scope at operator.Remainder left right = at_place NotLinear at

abbrev pub cond_operator_diagnostics : Symbols → BodyScope → Place → Operator → Option Bool → RawExpr × List (Diagnostic Cause) → RawExpr × List (Diagnostic Cause) → List (Diagnostic Cause)
cond_operator_diagnostics symbols scope at operator (Some is_or) left right = left.1 ++ right.1
cond_operator_diagnostics symbols scope at operator None left right = plain_operator_diagnostics symbols scope at operator left.0 right.0

abbrev pub cond_diagnostics_step : Symbols → BodyScope → Place → RawLevel (List (Diagnostic Cause)) → List (Diagnostic Cause)
cond_diagnostics_step symbols scope at (RawExprKind-F.Literal literal) =
    refused_unless (is_truth (literal_kind symbols.enums literal)) NotLinear at
cond_diagnostics_step symbols scope at (RawExprKind-F.Read read) = refused_unless (is_truth (raw_read_kind symbols scope read)) NotLinear at
cond_diagnostics_step symbols scope at (RawExprKind-F.Not inner) = inner.1
cond_diagnostics_step symbols scope at (RawExprKind-F.Negate inner) = at_place NotLinear at
cond_diagnostics_step symbols scope at (RawExprKind-F.Binary operator left right) =
    cond_operator_diagnostics symbols scope at operator (junction operator) left right

-- the parts of a condition that are not of its form
unfoldable pub cond_diagnostics : Symbols → BodyScope → RawExpr → List (Diagnostic Cause)
cond_diagnostics symbols scope raw = raw_gives (List (Diagnostic Cause)) [] (cond_diagnostics_step symbols scope) raw.at raw.what

-- what is wrong with a condition: as with every expression that is to be a truth, and parts that are not of the form
abbrev pub wait_diagnostics : Symbols → BodyScope → RawExpr → List (Diagnostic Cause)
wait_diagnostics symbols scope raw = typed_diagnostics symbols scope Truth raw ++ cond_diagnostics symbols scope raw

-- ---- what a condition means

abbrev pub joint_of : Bool → Cond → Cond → Cond
joint_of true left right = cond.Or left right
joint_of false left right = cond.And left right

abbrev pub plain_operator_of : Symbols → BodyScope → Operator → RawExpr → RawExpr → Cond
plain_operator_of symbols scope (operator.Compare how) left right =
    compared_of symbols scope how left right (forms_compared symbols scope how left right)
plain_operator_of symbols scope operator.Or left right = cond.Literal false
plain_operator_of symbols scope operator.And left right = cond.Literal false
plain_operator_of symbols scope operator.Plus left right = cond.Literal false
plain_operator_of symbols scope operator.Minus left right = cond.Literal false
plain_operator_of symbols scope operator.Times left right = cond.Literal false
plain_operator_of symbols scope operator.Divide left right = cond.Literal false
plain_operator_of symbols scope operator.Remainder left right = cond.Literal false

abbrev pub cond_operator_of : Symbols → BodyScope → Operator → Option Bool → RawExpr × Cond → RawExpr × Cond → Cond
cond_operator_of symbols scope operator (Some is_or) left right = joint_of is_or left.1 right.1
cond_operator_of symbols scope operator None left right = plain_operator_of symbols scope operator left.0 right.0

abbrev pub cond_step : Symbols → BodyScope → Place → RawLevel Cond → Cond
cond_step symbols scope at (RawExprKind-F.Literal literal) = cond.Literal (literal_truth literal)
cond_step symbols scope at (RawExprKind-F.Read read) = cond.Flag (read_operand symbols scope read)
cond_step symbols scope at (RawExprKind-F.Not inner) = cond.Not inner.1
cond_step symbols scope at (RawExprKind-F.Negate inner) = cond.Literal false
cond_step symbols scope at (RawExprKind-F.Binary operator left right) = cond_operator_of symbols scope operator (junction operator) left right

-- the condition that is meant; of one with something wrong it is never used
unfoldable pub cond_of : Symbols → BodyScope → RawExpr → Cond
cond_of symbols scope raw = raw_gives Cond (cond.Literal false) (cond_step symbols scope) raw.at raw.what
