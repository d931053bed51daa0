-- A file of lemmas: what it proves need not be read to trust a clause.
--
-- The recursion over an expression is the fold, which does not compute, and expressions of their parts are the type's own.
use Rattle.std.specs.Prelude.{◌≡◌}
use Rattle.aerie_base.specs.declared.expressions.Expr.{Expr, Literal, Operand, Not, Not', Negate, Negate', Binary, Binary', end_of-Expr, more_of-Expr, fold-Expr, fold_out-Expr, out-Expr}
use Rattle.aerie_base.specs.declared.expressions.Operator.{Operator}
use Rattle.aerie_base.specs.declared.expressions.Expr.TheOpen.{Expr-F}
use Rattle.aerie_base.specs.declared.expressions.Expr.TheBlock.{hidden-the_row-Expr-0, shape-the_row-Expr-0, shown-the_row-Expr-0}
use denote.Hole.Carrier.{hidden, shown, out}
use mathlib.Core.Path.{refl, sym, ap, ◌∙◌}
use Rattle.aerie_base.specs.expressions.Recursion.{expr_gives, node_not, node_negate, node_binary}

-- they are the type's own
pub node_not_is : (inner : Expr) → node_not inner ≡ Not inner
unfolding hidden-the_row-Expr-0 shape-the_row-Expr-0 hidden
node_not_is inner = refl

pub node_negate_is : (inner : Expr) → node_negate inner ≡ Negate inner
unfolding hidden-the_row-Expr-0 shape-the_row-Expr-0 hidden
node_negate_is inner = refl

pub node_binary_is : (operator : Operator) (left right : Expr) → node_binary operator left right ≡ Binary operator left right
unfolding hidden-the_row-Expr-0 shape-the_row-Expr-0 hidden
node_binary_is operator left right = refl

-- both recursions are one
pub gives_fold : (A : Type 0) (none : A) (f : Expr-F A → A) (expr : Expr) → expr_gives A none f expr ≡ fold-Expr A f expr
unfolding out-Expr out shown hidden shown-the_row-Expr-0 hidden-the_row-Expr-0 shape-the_row-Expr-0
gives_fold A none f (Literal value) = sym (fold_out-Expr A f (Literal value))
gives_fold A none f (Operand operand) = sym (fold_out-Expr A f (Operand operand))
gives_fold A none f (Not' s (more_of-Expr inner end_of-Expr)) =
    ap (λ (x : A). f (Expr-F.Not x)) (gives_fold A none f inner)
    ∙ sym (fold_out-Expr A f (Not' s (more_of-Expr inner end_of-Expr)))
gives_fold A none f (Negate' s (more_of-Expr inner end_of-Expr)) =
    ap (λ (x : A). f (Expr-F.Negate x)) (gives_fold A none f inner)
    ∙ sym (fold_out-Expr A f (Negate' s (more_of-Expr inner end_of-Expr)))
gives_fold A none f (Binary' operator s (more_of-Expr left end_of-Expr) t (more_of-Expr right end_of-Expr)) =
    (λ i. f (Expr-F.Binary operator (gives_fold A none f left i) (gives_fold A none f right i)))
    ∙ sym (fold_out-Expr A f (Binary' operator s (more_of-Expr left end_of-Expr) t (more_of-Expr right end_of-Expr)))
