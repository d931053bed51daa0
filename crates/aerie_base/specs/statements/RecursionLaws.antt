-- A file of lemmas: what it proves need not be read to trust a clause.
--
-- What the recursion over a statement gives at the forms with blocks.
use Rattle.std.proofs.Common.{◌≡◌, List, [], ◌∷◌, map, refl, ap}
use Rattle.aerie_base.specs.declared.expressions.Expr.{Expr}
use Rattle.aerie_base.specs.declared.statements.Stmt.{Stmt, If, While}
use Rattle.aerie_base.specs.declared.statements.Stmt.TheOpen.{Stmt-F}
use Rattle.aerie_base.specs.declared.statements.Stmt.TheBlock.{hidden-the_row-Stmt-0, shape-the_row-Stmt-0}
use denote.Hole.Carrier.{hidden}
use Rattle.aerie_base.specs.statements.Recursion.{stmt_gives, row_gives}

-- ---- what it gives at the forms with blocks

module _ (A : Type 0) (step : Stmt-F (Stmt × A) → A) where
  -- a statement and what it gives
  abbrev pub with_gift : Stmt → Stmt × A
  with_gift stmt = (stmt, stmt_gives A step stmt)

  -- a block is a list of statements
  pub row_is : (block : List Stmt) → row_gives A step (hidden-the_row-Stmt-0 block) ≡ map with_gift block
  unfolding hidden-the_row-Stmt-0 shape-the_row-Stmt-0 hidden
  row_is [] = refl
  row_is (stmt ∷ rest) = ap (λ (gifts : List (Stmt × A)). with_gift stmt ∷ gifts) (row_is rest)

  pub gives-If : (test : Expr) (block other : List Stmt) → stmt_gives A step (If test block other) ≡ step (Stmt-F.If test (map with_gift block) (map with_gift other))
  gives-If test block other = λ i. step (Stmt-F.If test (row_is block i) (row_is other i))

  pub gives-While : (test : Expr) (body : List Stmt) → stmt_gives A step (While test body) ≡ step (Stmt-F.While test (map with_gift body))
  gives-While test body = λ i. step (Stmt-F.While test (row_is body i))
