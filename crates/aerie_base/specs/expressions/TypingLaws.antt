-- A file of lemmas: what it proves need not be read to trust a clause.
--
-- The type of an expression is what its fold gives.
use Rattle.std.specs.Prelude.{◌≡◌}
use Rattle.aerie_base.specs.expressions.RecursionLaws.{gives_fold}
use Rattle.aerie_base.specs.declared.expressions.Expr.{Expr}
use Rattle.aerie_base.specs.expressions.Typing.{Typing, layer_kind, kind_by_fold, no_kind, kind_of}

-- both are one
pub kind_is : (expr : Expr) → kind_of expr ≡ kind_by_fold expr
unfolding kind_of
kind_is expr = gives_fold Typing no_kind layer_kind expr
