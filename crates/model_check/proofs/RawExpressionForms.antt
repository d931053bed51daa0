-- What an expression as it is written gives at each form with parts.
use Rattle.std.proofs.Common.{◌≡◌, refl}
use Rattle.aerie_base.specs.declared.expressions.Operator.{Operator}
use Rattle.aerie_base.specs.declared.places.Place.{Place}
use Rattle.model_reader.specs.declared.raw.expressions.RawExpr.{RawExpr}
use Rattle.model_reader.specs.declared.raw.expressions.RawExprKind.{Not, Negate, Binary}
use Rattle.model_reader.specs.declared.raw.expressions.RawExprKind.TheOpen.{RawExprKind-F}
use Rattle.model_reader.specs.declared.raw.expressions.RawExprKind.TheBlock.{hidden-the_row-RawExpr-0, shape-the_row-RawExpr-0}
use denote.Hole.Carrier.{hidden}
use Rattle.model_check.specs.RawExpressions.{RawLevel, raw_gives}

module _ (A : Type 0) (none : A) (step : Place → RawLevel A → A) where
  -- a part and what it gives
  abbrev pub given : RawExpr → RawExpr × A
  given part = (part, raw_gives A none step part.at part.what)

  pub gives_Not : (at : Place) (inner : RawExpr) → raw_gives A none step at (Not inner) ≡ step at (RawExprKind-F.Not (given inner))
  unfolding hidden-the_row-RawExpr-0 shape-the_row-RawExpr-0 hidden
  gives_Not at inner = refl

  pub gives_Negate : (at : Place) (inner : RawExpr) → raw_gives A none step at (Negate inner) ≡ step at (RawExprKind-F.Negate (given inner))
  unfolding hidden-the_row-RawExpr-0 shape-the_row-RawExpr-0 hidden
  gives_Negate at inner = refl

  pub gives_Binary : (at : Place) (operator : Operator) (left right : RawExpr) → raw_gives A none step at (Binary operator left right) ≡ step at (RawExprKind-F.Binary operator (given left) (given right))
  unfolding hidden-the_row-RawExpr-0 shape-the_row-RawExpr-0 hidden
  gives_Binary at operator left right = refl
