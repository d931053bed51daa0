-- Which locals are known behind a statement: a local is known from its `let` to the end of its block.
use Rattle.std.specs.Prelude.{false, List, [], ◌∷◌}
use Rattle.aerie_base.specs.declared.places.Place.{Place}
use Rattle.model_reader.specs.declared.raw.statements.RawStmt.{RawStmt}
use Rattle.model_reader.specs.declared.raw.statements.RawStmtKind.TheOpen.{RawStmtKind-F}
use Rattle.model_check.specs.declared.scopes.BodyScope.{BodyScope}
use Rattle.model_check.specs.declared.symbols.Symbols.{Symbols}
use Rattle.model_check.specs.BodyScopes.{with_new_local, block_left}
use Rattle.model_check.specs.Expressions.{raw_kind}
use Rattle.model_check.specs.Invokes.{call_kind}
use Rattle.model_check.specs.RawStatements.{StmtLevel, raw_stmt_gives}

abbrev pub Scoping : Type 0
Scoping = BodyScope → BodyScope

-- the scope behind the statements of a block
abbrev pub scoped_in_turn : List (RawStmt × Scoping) → Scoping
scoped_in_turn [] scope = scope
scoped_in_turn (stmt ∷ rest) scope = scoped_in_turn rest (stmt.1 scope)

-- the scope behind a block's braces
abbrev pub scoped_block : List (RawStmt × Scoping) → Scoping
scoped_block block scope = block_left scope (scoped_in_turn block scope)

abbrev pub scope_step : Symbols → Place → StmtLevel Scoping → Scoping
scope_step symbols at (RawStmtKind-F.Let name value) scope = with_new_local scope name.name (raw_kind symbols scope value.what) false
scope_step symbols at (RawStmtKind-F.LetCall name call) scope = with_new_local scope name.name (call_kind symbols call) false
scope_step symbols at (RawStmtKind-F.If test block other) scope = scoped_block other (scoped_block block scope)
scope_step symbols at (RawStmtKind-F.While test body) scope = scoped_block body scope
scope_step symbols at _ scope = scope

-- the scope behind a statement
unfoldable pub scope_behind : Symbols → RawStmt → Scoping
scope_behind symbols stmt = raw_stmt_gives Scoping (scope_step symbols) stmt.at stmt.what

-- the scope behind the statements of a block
abbrev pub scope_behind_all : Symbols → List RawStmt → Scoping
scope_behind_all symbols [] scope = scope
scope_behind_all symbols (stmt ∷ rest) scope = scope_behind_all symbols rest (scope_behind symbols stmt scope)

-- the scope behind a block's braces
abbrev pub scope_behind_block : Symbols → List RawStmt → Scoping
scope_behind_block symbols block scope = block_left scope (scope_behind_all symbols block scope)
