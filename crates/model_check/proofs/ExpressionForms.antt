-- What an expression at each form means, and what is wrong with it, by its parts.
use Rattle.std.proofs.Common.{◌≡◌, false, List, [], ◌++◌, ap, ◌∙◌}
use Rattle.aerie_base.specs.declared.expressions.Expr.{Expr}
use Rattle.aerie_base.specs.declared.expressions.Expr as expr
use Rattle.aerie_base.specs.declared.expressions.Operator.{Operator}
use Rattle.aerie_base.specs.declared.values.Kind.TheVariants.{Int, Truth}
use Rattle.aerie_base.specs.declared.values.Value.TheVariants as value
use Rattle.model_reader.specs.declared.raw.expressions.RawExpr.{RawExpr}
use Rattle.model_reader.specs.declared.raw.expressions.RawExprKind.{RawExprKind, Literal, Read, Not, Negate, Binary}
use Rattle.model_reader.specs.declared.raw.literals.RawLiteralKind.{RawLiteralKind}
use Rattle.model_reader.specs.declared.raw.reads.RawRead.{RawRead}
use Rattle.diagnostics.specs.declared.diagnostic.Diagnostic.{Diagnostic}
use Rattle.model_check.specs.declared.causes.Cause.{Cause}
use Rattle.model_check.specs.declared.scopes.BodyScope.{BodyScope}
use Rattle.model_check.specs.declared.symbols.Symbols.{Symbols}
use Rattle.model_check.specs.CellReads.{read_diagnostics, read_operand}
use Rattle.model_check.specs.Expressions.{expr_diagnostics, expr_diagnostics_step, expr_of, expr_step, is_wanted, sides_diagnostics, side_kind_of}
use Rattle.model_check.specs.Literals.{literal_diagnostics, literal_value}
use Rattle.model_check.specs.RawExpressions.{raw_gives}
use Rattle.model_check.proofs.RawExpressionForms.{gives_Not, gives_Negate, gives_Binary}

module _ (symbols : Symbols) (scope : BodyScope) where
  -- what is wrong by a step over one level, and what is meant
  abbrev wrong : RawExpr → RawExprKind → List (Diagnostic Cause)
  wrong raw what = raw_gives (List (Diagnostic Cause)) [] (expr_diagnostics_step symbols scope) raw.at what

  abbrev meant : RawExpr → RawExprKind → Expr
  meant raw what = raw_gives Expr (expr.Literal (value.Truth false)) (expr_step symbols scope) raw.at what

  pub wrong_literal : (raw : RawExpr) (literal : RawLiteralKind) → raw.what ≡ Literal literal →
      expr_diagnostics symbols scope raw ≡ literal_diagnostics symbols.enums literal
  unfolding expr_diagnostics
  wrong_literal raw literal e = ap (wrong raw) e

  pub meant_literal : (raw : RawExpr) (literal : RawLiteralKind) → raw.what ≡ Literal literal →
      expr_of symbols scope raw ≡ expr.Literal (literal_value symbols.enums literal)
  unfolding expr_of
  meant_literal raw literal e = ap (meant raw) e

  pub wrong_read : (raw : RawExpr) (read : RawRead) → raw.what ≡ Read read →
      expr_diagnostics symbols scope raw ≡ read_diagnostics symbols scope read
  unfolding expr_diagnostics
  wrong_read raw read e = ap (wrong raw) e

  pub meant_read : (raw : RawExpr) (read : RawRead) → raw.what ≡ Read read →
      expr_of symbols scope raw ≡ expr.Operand (read_operand symbols scope read)
  unfolding expr_of
  meant_read raw read e = ap (meant raw) e

  pub wrong_not : (raw inner : RawExpr) → raw.what ≡ Not inner →
      expr_diagnostics symbols scope raw ≡ expr_diagnostics symbols scope inner ++ is_wanted symbols scope Truth inner
  unfolding expr_diagnostics
  wrong_not raw inner e = ap (wrong raw) e ∙ gives_Not (List (Diagnostic Cause)) [] (expr_diagnostics_step symbols scope) raw.at inner

  pub meant_not : (raw inner : RawExpr) → raw.what ≡ Not inner → expr_of symbols scope raw ≡ expr.Not (expr_of symbols scope inner)
  unfolding expr_of
  meant_not raw inner e = ap (meant raw) e ∙ gives_Not Expr (expr.Literal (value.Truth false)) (expr_step symbols scope) raw.at inner

  pub wrong_negate : (raw inner : RawExpr) → raw.what ≡ Negate inner →
      expr_diagnostics symbols scope raw ≡ expr_diagnostics symbols scope inner ++ is_wanted symbols scope Int inner
  unfolding expr_diagnostics
  wrong_negate raw inner e = ap (wrong raw) e ∙ gives_Negate (List (Diagnostic Cause)) [] (expr_diagnostics_step symbols scope) raw.at inner

  pub meant_negate : (raw inner : RawExpr) → raw.what ≡ Negate inner →
      expr_of symbols scope raw ≡ expr.Negate (expr_of symbols scope inner)
  unfolding expr_of
  meant_negate raw inner e = ap (meant raw) e ∙ gives_Negate Expr (expr.Literal (value.Truth false)) (expr_step symbols scope) raw.at inner

  pub wrong_binary : (raw : RawExpr) (operator : Operator) (left right : RawExpr) → raw.what ≡ Binary operator left right →
      expr_diagnostics symbols scope raw
      ≡ expr_diagnostics symbols scope left ++ expr_diagnostics symbols scope right
      ++ sides_diagnostics symbols scope (side_kind_of operator) left right
  unfolding expr_diagnostics
  wrong_binary raw operator left right e =
      ap (wrong raw) e ∙ gives_Binary (List (Diagnostic Cause)) [] (expr_diagnostics_step symbols scope) raw.at operator left right

  pub meant_binary : (raw : RawExpr) (operator : Operator) (left right : RawExpr) → raw.what ≡ Binary operator left right →
      expr_of symbols scope raw ≡ expr.Binary operator (expr_of symbols scope left) (expr_of symbols scope right)
  unfolding expr_of
  meant_binary raw operator left right e =
      ap (meant raw) e ∙ gives_Binary Expr (expr.Literal (value.Truth false)) (expr_step symbols scope) raw.at operator left right
