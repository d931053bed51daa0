-- Recursion over a statement as it is written that computes: what a statement gives at its place, by the statements of its
-- blocks, each with what it gives.
use Rattle.std.specs.Prelude.{List, [], ◌∷◌}
use Rattle.aerie_base.specs.declared.places.Place.{Place}
use Rattle.model_reader.specs.declared.raw.statements.RawStmt.{RawStmt}
use Rattle.model_reader.specs.declared.raw.statements.RawStmtKind.{RawStmtKind, Let, LetCall, Assign, Add, Put, AddVolume, AddRate, Delay, WaitUntil, Spawn, Call, If', While', Return, Row_of-RawStmt, end_of-RawStmt, more_of-RawStmt}
use Rattle.model_reader.specs.declared.raw.statements.RawStmtKind.TheOpen.{RawStmtKind-F}

-- one level of a statement: the statements of its blocks, each with what it gives
abbrev pub StmtLevel : Type 0 → Type 0
StmtLevel A = RawStmtKind-F A (RawStmt × A)

abbrev mutual
  -- what a statement at a place gives, by a step over one level
  pub raw_stmt_gives : (A : Type 0) → (Place → StmtLevel A → A) → Place → RawStmtKind → A
  raw_stmt_gives A step at (Let name value) = step at (RawStmtKind-F.Let name value)
  raw_stmt_gives A step at (LetCall name call) = step at (RawStmtKind-F.LetCall name call)
  raw_stmt_gives A step at (Assign name value) = step at (RawStmtKind-F.Assign name value)
  raw_stmt_gives A step at (Add name value) = step at (RawStmtKind-F.Add name value)
  raw_stmt_gives A step at (Put name value) = step at (RawStmtKind-F.Put name value)
  raw_stmt_gives A step at (AddVolume name value) = step at (RawStmtKind-F.AddVolume name value)
  raw_stmt_gives A step at (AddRate name value) = step at (RawStmtKind-F.AddRate name value)
  raw_stmt_gives A step at (Delay by) = step at (RawStmtKind-F.Delay by)
  raw_stmt_gives A step at (WaitUntil condition) = step at (RawStmtKind-F.WaitUntil condition)
  raw_stmt_gives A step at (Spawn child) = step at (RawStmtKind-F.Spawn child)
  raw_stmt_gives A step at (Call child) = step at (RawStmtKind-F.Call child)
  raw_stmt_gives A step at (If' test _ block _ other) = step at (RawStmtKind-F.If test (block_gives A step block) (block_gives A step other))
  raw_stmt_gives A step at (While' test _ body) = step at (RawStmtKind-F.While test (block_gives A step body))
  raw_stmt_gives A step at (Return value) = step at (RawStmtKind-F.Return value)

  -- the same of each statement of a block
  pub block_gives : (A : Type 0) → (Place → StmtLevel A → A) → {m : _} → Row_of-RawStmt m → List (RawStmt × A)
  block_gives A step end_of-RawStmt = []
  block_gives A step (more_of-RawStmt at what rest) =
      (record { at = at; what = what }, raw_stmt_gives A step at what) ∷ block_gives A step rest
