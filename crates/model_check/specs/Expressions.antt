-- Expressions: what is wrong with one, its type and what it means.
use Rattle.std.specs.Prelude.{false, List, [], ◌++◌, Option, Some, None}
use Rattle.aerie_base.specs.declared.expressions.Comparison.{Comparison}
use Rattle.aerie_base.specs.declared.expressions.Comparison.TheVariants as by
use Rattle.aerie_base.specs.declared.expressions.Expr.{Expr}
use Rattle.aerie_base.specs.declared.expressions.Expr as expr
use Rattle.aerie_base.specs.declared.expressions.Operator.{Operator}
use Rattle.aerie_base.specs.declared.expressions.Operator.TheVariants as operator
use Rattle.aerie_base.specs.declared.places.Place.{Place}
use Rattle.aerie_base.specs.declared.values.Kind.{Kind}
use Rattle.aerie_base.specs.declared.values.Kind.TheVariants.{Int, Truth}
use Rattle.aerie_base.specs.declared.values.Value.TheVariants as value
use Rattle.model_reader.specs.declared.raw.expressions.RawExpr.{RawExpr}
use Rattle.model_reader.specs.declared.raw.expressions.RawExprKind.{RawExprKind, Literal, Read, Not', Negate', Binary'}
use Rattle.model_reader.specs.declared.raw.expressions.RawExprKind.TheOpen.{RawExprKind-F}
use Rattle.diagnostics.specs.declared.diagnostic.Diagnostic.{Diagnostic}
use Rattle.model_check.specs.declared.causes.Cause.{Cause}
use Rattle.model_check.specs.declared.scopes.BodyScope.{BodyScope}
use Rattle.model_check.specs.declared.symbols.Symbols.{Symbols}
use Rattle.model_check.specs.CellReads.{raw_read_kind, read_diagnostics, read_operand}
use Rattle.model_check.specs.Literals.{mismatch, literal_kind, literal_diagnostics, literal_value}
use Rattle.model_check.specs.RawExpressions.{RawLevel, raw_gives}

-- ---- types

-- the type that an operator gives, whatever stands on its sides
abbrev pub kind_of_operator : Operator → Kind
kind_of_operator operator.Or = Truth
kind_of_operator operator.And = Truth
kind_of_operator (operator.Compare how) = Truth
kind_of_operator operator.Plus = Int
kind_of_operator operator.Minus = Int
kind_of_operator operator.Times = Int
kind_of_operator operator.Divide = Int
kind_of_operator operator.Remainder = Int

abbrev pub compared_kind : Comparison → Option Kind
compared_kind by.Equal = None
compared_kind by.Unequal = None
compared_kind by.Less = Some Int
compared_kind by.AtMost = Some Int
compared_kind by.More = Some Int
compared_kind by.AtLeast = Some Int

-- the type that an operator takes on both sides; `==` and `!=` take two values of any one type
abbrev pub side_kind_of : Operator → Option Kind
side_kind_of operator.Or = Some Truth
side_kind_of operator.And = Some Truth
side_kind_of (operator.Compare how) = compared_kind how
side_kind_of operator.Plus = Some Int
side_kind_of operator.Minus = Some Int
side_kind_of operator.Times = Some Int
side_kind_of operator.Divide = Some Int
side_kind_of operator.Remainder = Some Int

-- the type of an expression: there is none where it is a name or a literal that is unknown
abbrev pub raw_kind : Symbols → BodyScope → RawExprKind → Option Kind
raw_kind symbols scope (Literal literal) = literal_kind symbols.enums literal
raw_kind symbols scope (Read read) = raw_read_kind symbols scope read
raw_kind symbols scope (Not' _ _) = Some Truth
raw_kind symbols scope (Negate' _ _) = Some Int
raw_kind symbols scope (Binary' operator _ _ _ _) = Some (kind_of_operator operator)

-- ---- what is wrong

-- a part that has another type than is wanted
abbrev pub is_wanted : Symbols → BodyScope → Kind → RawExpr → List (Diagnostic Cause)
is_wanted symbols scope wanted part = mismatch part.at (Some wanted) (raw_kind symbols scope part.what)

-- the sides of an operator have the type that it takes, or one type
abbrev pub sides_diagnostics : Symbols → BodyScope → Option Kind → RawExpr → RawExpr → List (Diagnostic Cause)
sides_diagnostics symbols scope None left right =
    mismatch right.at (raw_kind symbols scope left.what) (raw_kind symbols scope right.what)
sides_diagnostics symbols scope (Some wanted) left right =
    is_wanted symbols scope wanted left ++ is_wanted symbols scope wanted right

abbrev pub expr_diagnostics_step : Symbols → BodyScope → Place → RawLevel (List (Diagnostic Cause)) → List (Diagnostic Cause)
expr_diagnostics_step symbols scope at (RawExprKind-F.Literal literal) = literal_diagnostics symbols.enums literal
expr_diagnostics_step symbols scope at (RawExprKind-F.Read read) = read_diagnostics symbols scope read
expr_diagnostics_step symbols scope at (RawExprKind-F.Not inner) = inner.1 ++ is_wanted symbols scope Truth inner.0
expr_diagnostics_step symbols scope at (RawExprKind-F.Negate inner) = inner.1 ++ is_wanted symbols scope Int inner.0
expr_diagnostics_step symbols scope at (RawExprKind-F.Binary operator left right) =
    left.1 ++ right.1 ++ sides_diagnostics symbols scope (side_kind_of operator) left.0 right.0

-- what is wrong with an expression
unfoldable pub expr_diagnostics : Symbols → BodyScope → RawExpr → List (Diagnostic Cause)
expr_diagnostics symbols scope raw = raw_gives (List (Diagnostic Cause)) [] (expr_diagnostics_step symbols scope) raw.at raw.what

-- the same where a type is wanted of it
abbrev pub typed_diagnostics : Symbols → BodyScope → Kind → RawExpr → List (Diagnostic Cause)
typed_diagnostics symbols scope wanted raw = expr_diagnostics symbols scope raw ++ is_wanted symbols scope wanted raw

-- ---- what it means

abbrev pub expr_step : Symbols → BodyScope → Place → RawLevel Expr → Expr
expr_step symbols scope at (RawExprKind-F.Literal literal) = expr.Literal (literal_value symbols.enums literal)
expr_step symbols scope at (RawExprKind-F.Read read) = expr.Operand (read_operand symbols scope read)
expr_step symbols scope at (RawExprKind-F.Not inner) = expr.Not inner.1
expr_step symbols scope at (RawExprKind-F.Negate inner) = expr.Negate inner.1
expr_step symbols scope at (RawExprKind-F.Binary operator left right) = expr.Binary operator left.1 right.1

-- the expression that is meant; of one with something wrong it is never used
unfoldable pub expr_of : Symbols → BodyScope → RawExpr → Expr
expr_of symbols scope raw = raw_gives Expr (expr.Literal (value.Truth false)) (expr_step symbols scope) raw.at raw.what
