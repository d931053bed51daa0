-- Recursion over an expression that computes. What is wanted of an expression is a function of one layer: of its form
-- and of what its parts gave. `fold-Expr` is the same recursion, in the form in which a function's proof takes it; it
-- does not compute.
use Rattle.aerie_base.specs.declared.expressions.Expr.{Expr, Literal, Operand, Not', Negate', Binary', Row_of-Expr, end_of-Expr, more_of-Expr}
use Rattle.aerie_base.specs.declared.expressions.Operator.{Operator}
use Rattle.aerie_base.specs.declared.expressions.Expr.TheOpen.{Expr-F}

abbrev mutual
  -- what the layers of an expression give; the value in front is for a part that is not there, and never comes
  pub expr_gives : (A : Type 0) → A → (Expr-F A → A) → Expr → A
  expr_gives A none f (Literal value) = f (Expr-F.Literal value)
  expr_gives A none f (Operand operand) = f (Expr-F.Operand operand)
  expr_gives A none f (Not' s inner) = f (Expr-F.Not (expr_row_gives A none f inner))
  expr_gives A none f (Negate' s inner) = f (Expr-F.Negate (expr_row_gives A none f inner))
  expr_gives A none f (Binary' operator s left t right) =
      f (Expr-F.Binary operator (expr_row_gives A none f left) (expr_row_gives A none f right))

  -- of the one expression in a row of one
  pub expr_row_gives : (A : Type 0) → A → (Expr-F A → A) → {m : _} → Row_of-Expr m → A
  expr_row_gives A none f end_of-Expr = none
  expr_row_gives A none f (more_of-Expr expr rest) = expr_gives A none f expr

-- expressions of their parts, on which the recursion computes
abbrev pub node_not : Expr → Expr
node_not inner = Not' tt (more_of-Expr inner end_of-Expr)

abbrev pub node_negate : Expr → Expr
node_negate inner = Negate' tt (more_of-Expr inner end_of-Expr)

abbrev pub node_binary : Operator → Expr → Expr → Expr
node_binary operator left right = Binary' operator tt (more_of-Expr left end_of-Expr) tt (more_of-Expr right end_of-Expr)
