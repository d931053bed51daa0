-- How deep the blocks of a body nest. The body's own braces are no level.
use Rattle.std.specs.Prelude.{ℕ, ◌+◌, max, List, [], ◌∷◌}
use Rattle.aerie_base.specs.statements.Recursion.{stmt_gives}
use Rattle.aerie_base.specs.declared.statements.Stmt.{Stmt}
use Rattle.aerie_base.specs.declared.statements.Stmt.TheOpen.{Stmt-F}

abbrev pub deepest : List (Stmt × ℕ) → ℕ
deepest [] = 0
deepest (stmt ∷ rest) = max stmt.1 (deepest rest)

abbrev pub stmt_depth_step : Stmt-F (Stmt × ℕ) → ℕ
stmt_depth_step (Stmt-F.If test block other) = 1 + max (deepest block) (deepest other)
stmt_depth_step (Stmt-F.While test body) = 1 + deepest body
stmt_depth_step _ = 0

-- how deep blocks nest in a statement
unfoldable pub stmt_depth : Stmt → ℕ
stmt_depth = stmt_gives ℕ stmt_depth_step

-- how deep blocks nest in a body
abbrev pub body_depth : List Stmt → ℕ
body_depth [] = 0
body_depth (stmt ∷ rest) = max (stmt_depth stmt) (body_depth rest)
