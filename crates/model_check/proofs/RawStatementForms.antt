-- What a statement as it is written gives at the forms with blocks.
use Rattle.std.proofs.Common.{◌≡◌, List, [], ◌∷◌, map, refl, ap}
use Rattle.aerie_base.specs.declared.places.Place.{Place}
use Rattle.model_reader.specs.declared.raw.expressions.RawExpr.{RawExpr}
use Rattle.model_reader.specs.declared.raw.statements.RawStmt.{RawStmt}
use Rattle.model_reader.specs.declared.raw.statements.RawStmtKind.{If, While}
use Rattle.model_reader.specs.declared.raw.statements.RawStmtKind.TheOpen.{RawStmtKind-F}
use Rattle.model_reader.specs.declared.raw.statements.RawStmtKind.TheBlock.{hidden-the_row-RawStmt-0, shape-the_row-RawStmt-0}
use denote.Hole.Carrier.{hidden}
use Rattle.model_check.specs.RawStatements.{StmtLevel, raw_stmt_gives, block_gives}

module _ (A : Type 0) (step : Place → StmtLevel A → A) where
  -- a statement and what it gives
  abbrev pub given_stmt : RawStmt → RawStmt × A
  given_stmt stmt = (stmt, raw_stmt_gives A step stmt.at stmt.what)

  pub block_is : (block : List RawStmt) → block_gives A step (hidden-the_row-RawStmt-0 block) ≡ map given_stmt block
  unfolding hidden-the_row-RawStmt-0 shape-the_row-RawStmt-0 hidden
  block_is [] = refl
  block_is (stmt ∷ rest) = ap (λ (gifts : List (RawStmt × A)). given_stmt stmt ∷ gifts) (block_is rest)

  pub gives_If : (at : Place) (test : RawExpr) (block other : List RawStmt) →
      raw_stmt_gives A step at (If test block other) ≡ step at (RawStmtKind-F.If test (map given_stmt block) (map given_stmt other))
  gives_If at test block other = λ i. step at (RawStmtKind-F.If test (block_is block i) (block_is other i))

  pub gives_While : (at : Place) (test : RawExpr) (body : List RawStmt) →
      raw_stmt_gives A step at (While test body) ≡ step at (RawStmtKind-F.While test (map given_stmt body))
  gives_While at test body = λ i. step at (RawStmtKind-F.While test (block_is body i))
