-- Leaves of linear forms at the forms of expressions.
use Rattle.std.proofs.Common.{◌≡◌, pos, Bool, [], ◌∷◌, ◌++◌, Option, Some, None, refl, ap, sym, ◌∙◌}
use Rattle.aerie_base.specs.declared.expressions.Operator.{Operator}
use Rattle.model_reader.specs.declared.raw.expressions.RawExpr.{RawExpr}
use Rattle.model_reader.specs.declared.raw.expressions.RawExprKind.{RawExprKind, Literal, Read, Not, Negate, Binary}
use Rattle.model_reader.specs.declared.raw.expressions.RawExprKind.TheBlock.{hidden-the_row-RawExpr-0, shape-the_row-RawExpr-0}
use Rattle.model_reader.specs.declared.raw.literals.RawLiteralKind.{RawLiteralKind}
use Rattle.model_reader.specs.declared.raw.reads.RawRead.{RawRead}
use denote.Hole.Carrier.{hidden}
use Rattle.model_check.specs.declared.leaves.FormUse.{FormUse}
use Rattle.model_check.specs.declared.leaves.Leaf.{Leaf}
use Rattle.model_check.specs.declared.scopes.BodyScope.{BodyScope}
use Rattle.model_check.specs.declared.symbols.Symbols.{Symbols}
use Rattle.model_check.specs.LinearForms.{Leaves, no_leaves, leaves_step, leaves_of, unfit_leaf, negated_leaf, flipped, sum_sign, joint_sign, operator_leaf, operator_leaves, literal_leaf, read_leaf, negated_leaves, plain_number, negated_number, signed_number}
use Rattle.model_check.specs.RawExpressions.{raw_gives}
use Rattle.model_check.proofs.RawExpressionForms.{gives_Not, gives_Negate, gives_Binary}

negate_is : (inner : RawExpr) → signed_number (Negate inner) ≡ negated_number (plain_number inner.what)
unfolding hidden-the_row-RawExpr-0 shape-the_row-RawExpr-0 hidden
negate_is inner = refl

-- the number of a literal behind a minus
pub negated_literal : (raw : RawExprKind) (inner : RawExpr) → raw ≡ Negate inner → signed_number raw ≡ negated_number (plain_number inner.what)
negated_literal raw inner e = ap signed_number e ∙ negate_is inner

module _ (use_ : FormUse) (symbols : Symbols) (scope : BodyScope) where
  abbrev leaves : RawExpr → RawExprKind → Leaves
  leaves raw what = raw_gives Leaves no_leaves (leaves_step use_ symbols scope) raw.at what

  pub leaves_literal : (raw : RawExpr) (negative : Bool) (literal : RawLiteralKind) → raw.what ≡ Literal literal →
      leaves_of use_ symbols scope raw negative ≡ literal_leaf use_ symbols raw.at negative literal ∷ []
  unfolding leaves_of
  leaves_literal raw negative literal e = ap (λ (what : RawExprKind). leaves raw what negative) e

  pub leaves_read : (raw : RawExpr) (negative : Bool) (read : RawRead) → raw.what ≡ Read read →
      leaves_of use_ symbols scope raw negative ≡ read_leaf use_ symbols scope raw.at raw.at negative (pos 1) read ∷ []
  unfolding leaves_of
  leaves_read raw negative read e = ap (λ (what : RawExprKind). leaves raw what negative) e

  pub leaves_not : (raw : RawExpr) (negative : Bool) (inner : RawExpr) → raw.what ≡ Not inner →
      leaves_of use_ symbols scope raw negative ≡ unfit_leaf raw.at ∷ []
  unfolding leaves_of
  leaves_not raw negative inner e =
      ap (λ (what : RawExprKind). leaves raw what negative) e
      ∙ (λ i. gives_Not Leaves no_leaves (leaves_step use_ symbols scope) raw.at inner i negative)

  leaves_negate : (raw : RawExpr) (negative : Bool) (inner : RawExpr) → raw.what ≡ Negate inner →
      leaves_of use_ symbols scope raw negative ≡ negated_leaves (negated_leaf use_ raw.at negative (plain_number inner.what)) (leaves_of use_ symbols scope inner) negative
  unfolding leaves_of
  leaves_negate raw negative inner e =
      ap (λ (what : RawExprKind). leaves raw what negative) e
      ∙ (λ i. gives_Negate Leaves no_leaves (leaves_step use_ symbols scope) raw.at inner i negative)

  pub leaves_negated : (raw : RawExpr) (negative : Bool) (inner : RawExpr) → raw.what ≡ Negate inner → None ≡ negated_leaf use_ raw.at negative (plain_number inner.what) →
      leaves_of use_ symbols scope raw negative ≡ leaves_of use_ symbols scope inner (flipped negative)
  leaves_negated raw negative inner e none =
      leaves_negate raw negative inner e
      ∙ ap (λ (leaf : Option Leaf). negated_leaves leaf (leaves_of use_ symbols scope inner) negative) (sym none)

  pub leaves_literal_negated : (raw : RawExpr) (negative : Bool) (inner : RawExpr) (leaf : Leaf) → raw.what ≡ Negate inner → Some leaf ≡ negated_leaf use_ raw.at negative (plain_number inner.what) →
      leaves_of use_ symbols scope raw negative ≡ leaf ∷ []
  leaves_literal_negated raw negative inner leaf e some =
      leaves_negate raw negative inner e
      ∙ ap (λ (leaf : Option Leaf). negated_leaves leaf (leaves_of use_ symbols scope inner) negative) (sym some)

  leaves_binary : (raw : RawExpr) (negative : Bool) (operator : Operator) (left right : RawExpr) → raw.what ≡ Binary operator left right →
      leaves_of use_ symbols scope raw negative
      ≡ operator_leaves use_ symbols scope raw.at operator (sum_sign operator) (left, leaves_of use_ symbols scope left) (right, leaves_of use_ symbols scope right) negative
  unfolding leaves_of
  leaves_binary raw negative operator left right e =
      ap (λ (what : RawExprKind). leaves raw what negative) e
      ∙ (λ i. gives_Binary Leaves no_leaves (leaves_step use_ symbols scope) raw.at operator left right i negative)

  pub leaves_sum : (raw : RawExpr) (negative : Bool) (operator : Operator) (left right : RawExpr) (minus : Bool) → raw.what ≡ Binary operator left right → Some minus ≡ sum_sign operator →
      leaves_of use_ symbols scope raw negative ≡ leaves_of use_ symbols scope left negative ++ leaves_of use_ symbols scope right (joint_sign minus negative)
  leaves_sum raw negative operator left right minus e some =
      leaves_binary raw negative operator left right e
      ∙ ap (λ (sign : Option Bool). operator_leaves use_ symbols scope raw.at operator sign (left, leaves_of use_ symbols scope left) (right, leaves_of use_ symbols scope right) negative) (sym some)

  pub leaves_operator : (raw : RawExpr) (negative : Bool) (operator : Operator) (left right : RawExpr) → raw.what ≡ Binary operator left right → None ≡ sum_sign operator →
      leaves_of use_ symbols scope raw negative ≡ operator_leaf use_ symbols scope raw.at negative operator left right ∷ []
  leaves_operator raw negative operator left right e none =
      leaves_binary raw negative operator left right e
      ∙ ap (λ (sign : Option Bool). operator_leaves use_ symbols scope raw.at operator sign (left, leaves_of use_ symbols scope left) (right, leaves_of use_ symbols scope right) negative) (sym none)
