-- A file of lemmas: what it proves need not be read to trust a clause.
--
-- The value of an expression is what its fold gives.
use Rattle.std.specs.Prelude.{◌≡◌}
use Rattle.aerie_base.specs.expressions.RecursionLaws.{gives_fold}
use Rattle.aerie_base.specs.declared.expressions.Expr.{Expr}
use Rattle.aerie_base.specs.expressions.Evaluation.{Meaning, layer, evaluated_by_fold, no_meaning, evaluated}

-- both are one
pub evaluated_is : (expr : Expr) → evaluated expr ≡ evaluated_by_fold expr
unfolding evaluated
evaluated_is expr = gives_fold Meaning no_meaning layer expr
