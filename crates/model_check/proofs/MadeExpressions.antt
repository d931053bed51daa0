-- An expression is made of its parts, and what is wrong with it is noted part by part.
use Rattle.std.proofs.Common.{◌≡◌, List, ◌++◌, Option, sym, ap, ◌∙◌}
use Rattle.aerie_base.specs.declared.expressions.Expr.{Expr}
use Rattle.aerie_base.specs.declared.expressions.Expr as expr
use Rattle.aerie_base.specs.declared.expressions.Operator.{Operator}
use Rattle.aerie_base.specs.declared.values.Kind.TheVariants.{Int, Truth}
use Rattle.model_reader.specs.declared.raw.expressions.RawExpr.{RawExpr}
use Rattle.model_reader.specs.declared.raw.expressions.RawExprKind.{Not, Negate, Binary}
use Rattle.diagnostics.specs.declared.diagnostic.Diagnostic.{Diagnostic}
use Rattle.model_check.specs.declared.causes.Cause.{Cause}
use Rattle.model_check.specs.declared.scopes.BodyScope.{BodyScope}
use Rattle.model_check.specs.declared.symbols.Symbols.{Symbols}
use Rattle.model_check.specs.Diagnostics.{number_of_cause, noted, Makes}
use Rattle.model_check.specs.Expressions.{expr_diagnostics, expr_of, is_wanted, sides_diagnostics, side_kind_of}
use Rattle.diagnostics.specs.NotedInTurn.{noted_in_turn}
use Rattle.model_check.proofs.ExpressionForms.{wrong_not, meant_not, wrong_negate, meant_negate, wrong_binary, meant_binary}

module _ (symbols : Symbols) (scope : BodyScope) where
  abbrev pub IsExpression : RawExpr → Option (Diagnostic Cause) → Option (Diagnostic Cause) → Expr → Type 0
  IsExpression raw before after made = Makes (expr_of symbols scope raw) (expr_diagnostics symbols scope raw) before after made

  pub made_not : (raw part inner : RawExpr) → raw.what ≡ Not part → inner ≡ part →
      (made boxed : Expr) (before between after : Option (Diagnostic Cause)) →
      IsExpression inner before between made → after ≡ noted between (is_wanted symbols scope Truth inner) → boxed ≡ made →
      IsExpression raw before after (expr.Not boxed)
  made_not raw part inner e same made boxed before between after whole typed is =
      let here : raw.what ≡ Not inner = e ∙ ap (λ (x : RawExpr). Not x) (sym same) in (
        ap (λ (x : Expr). expr.Not x) (is ∙ whole.0) ∙ sym (meant_not symbols scope raw inner here),
        noted_in_turn number_of_cause (expr_diagnostics symbols scope inner) (is_wanted symbols scope Truth inner) before between after whole.1 typed
            ∙ ap (λ (ds : List (Diagnostic Cause)). noted before ds) (sym (wrong_not symbols scope raw inner here)),
      )

  pub made_negate : (raw part inner : RawExpr) → raw.what ≡ Negate part → inner ≡ part →
      (made boxed : Expr) (before between after : Option (Diagnostic Cause)) →
      IsExpression inner before between made → after ≡ noted between (is_wanted symbols scope Int inner) → boxed ≡ made →
      IsExpression raw before after (expr.Negate boxed)
  made_negate raw part inner e same made boxed before between after whole typed is =
      let here : raw.what ≡ Negate inner = e ∙ ap (λ (x : RawExpr). Negate x) (sym same) in (
        ap (λ (x : Expr). expr.Negate x) (is ∙ whole.0) ∙ sym (meant_negate symbols scope raw inner here),
        noted_in_turn number_of_cause (expr_diagnostics symbols scope inner) (is_wanted symbols scope Int inner) before between after whole.1 typed
            ∙ ap (λ (ds : List (Diagnostic Cause)). noted before ds) (sym (wrong_negate symbols scope raw inner here)),
      )

  pub made_binary : (raw : RawExpr) (operator : Operator) (left_part right_part left right : RawExpr) →
      raw.what ≡ Binary operator left_part right_part → left ≡ left_part → right ≡ right_part →
      (made_left made_right boxed_left boxed_right : Expr) (before between beyond after : Option (Diagnostic Cause)) →
      IsExpression left before between made_left → IsExpression right between beyond made_right →
      after ≡ noted beyond (sides_diagnostics symbols scope (side_kind_of operator) left right) →
      boxed_left ≡ made_left → boxed_right ≡ made_right →
      IsExpression raw before after (expr.Binary operator boxed_left boxed_right)
  made_binary raw operator left_part right_part left right e same_left same_right made_left made_right boxed_left boxed_right before between beyond after first second typed is_left is_right =
      let here : raw.what ≡ Binary operator left right = e ∙ (λ i. Binary operator (sym same_left i) (sym same_right i)) in (
        (λ i. expr.Binary operator ((is_left ∙ first.0) i) ((is_right ∙ second.0) i)) ∙ sym (meant_binary symbols scope raw operator left right here),
        noted_in_turn number_of_cause (expr_diagnostics symbols scope left ++ expr_diagnostics symbols scope right) (sides_diagnostics symbols scope (side_kind_of operator) left right) before beyond after
            (noted_in_turn number_of_cause (expr_diagnostics symbols scope left) (expr_diagnostics symbols scope right) before between beyond first.1 second.1) typed
            ∙ ap (λ (ds : List (Diagnostic Cause)). noted before ds) (sym (wrong_binary symbols scope raw operator left right here)),
      )
