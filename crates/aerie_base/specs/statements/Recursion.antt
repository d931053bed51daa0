-- Recursion over a statement that computes: what a statement gives, by what the statements in its blocks give. A step
-- has each of these beside what it gives.
use Rattle.std.proofs.Common.{List, [], ◌∷◌}
use Rattle.aerie_base.specs.declared.statements.Stmt.{Stmt, Let, Assign, Emit, Delay, WaitUntil, Spawn, Call, If', While', Return, Row_of-Stmt, end_of-Stmt, more_of-Stmt}
use Rattle.aerie_base.specs.declared.statements.Stmt.TheOpen.{Stmt-F}

abbrev mutual
  -- what a statement gives, by a step over one level
  pub stmt_gives : (A : Type 0) → (Stmt-F (Stmt × A) → A) → Stmt → A
  stmt_gives A step (Let slot value) = step (Stmt-F.Let slot value)
  stmt_gives A step (Assign slot value) = step (Stmt-F.Assign slot value)
  stmt_gives A step (Emit cell what) = step (Stmt-F.Emit cell what)
  stmt_gives A step (Delay by) = step (Stmt-F.Delay by)
  stmt_gives A step (WaitUntil condition) = step (Stmt-F.WaitUntil condition)
  stmt_gives A step (Spawn kind arguments) = step (Stmt-F.Spawn kind arguments)
  stmt_gives A step (Call kind arguments into) = step (Stmt-F.Call kind arguments into)
  stmt_gives A step (If' test _ block _ other) = step (Stmt-F.If test (row_gives A step block) (row_gives A step other))
  stmt_gives A step (While' test _ body) = step (Stmt-F.While test (row_gives A step body))
  stmt_gives A step (Return value) = step (Stmt-F.Return value)

  -- the same for each statement of a block
  pub row_gives : (A : Type 0) → (Stmt-F (Stmt × A) → A) → {m : _} → Row_of-Stmt m → List (Stmt × A)
  row_gives A step end_of-Stmt = []
  row_gives A step (more_of-Stmt stmt rest) = (stmt, stmt_gives A step stmt) ∷ row_gives A step rest
