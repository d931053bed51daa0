-- What becomes of a statement or a block: what is made of it, what is noted, and the scope behind it.
use Rattle.std.specs.Prelude.{◌≡◌, List, Option}
use Rattle.aerie_base.specs.declared.places.Place.{Place}
use Rattle.aerie_base.specs.declared.statements.Stmt.{Stmt}
use Rattle.model_reader.specs.declared.raw.statements.RawStmt.{RawStmt}
use Rattle.model_reader.specs.declared.raw.statements.RawStmtKind.{RawStmtKind}
use Rattle.diagnostics.specs.declared.diagnostic.Diagnostic.{Diagnostic}
use Rattle.model_check.specs.declared.causes.Cause.{Cause}
use Rattle.model_check.specs.declared.scopes.BodyScope.{BodyScope}
use Rattle.model_check.specs.declared.symbols.ResultSymbol.{ResultSymbol}
use Rattle.model_check.specs.declared.symbols.Symbols.{Symbols}
use Rattle.model_check.specs.Diagnostics.{Makes}
use Rattle.model_check.specs.RawStatements.{raw_stmt_gives}
use Rattle.model_check.specs.StatementScopes.{Scoping, scope_step, scope_behind, scope_behind_block}
use Rattle.model_check.specs.Statements.{Judging, stmt_diagnostics_step, stmt_diagnostics, block_diagnostics, RawMaking, stmt_step, stmt_of, block_of}

-- this was made, what is wrong with it was noted, and this is the scope behind it
abbrev pub MakesBehind : {A : Type 0} → A → List (Diagnostic Cause) → BodyScope → BodyScope → Option (Diagnostic Cause) → Option (Diagnostic Cause) → A → Type 0
MakesBehind meant wrong behind_it after before_found after_found made = Makes meant wrong before_found after_found made × (after ≡ behind_it)

-- a statement of this form at a place
abbrev pub IsStatementAt : Symbols → Option ResultSymbol → Place → RawStmtKind → BodyScope → BodyScope → Option (Diagnostic Cause) → Option (Diagnostic Cause) → Stmt → Type 0
IsStatementAt symbols result at what scope =
    MakesBehind (raw_stmt_gives RawMaking (stmt_step symbols) at what scope)
    (raw_stmt_gives Judging (stmt_diagnostics_step symbols result) at what scope)
    (raw_stmt_gives Scoping (scope_step symbols) at what scope)

-- a statement
abbrev pub IsStatement : Symbols → Option ResultSymbol → RawStmt → BodyScope → BodyScope → Option (Diagnostic Cause) → Option (Diagnostic Cause) → Stmt → Type 0
IsStatement symbols result stmt scope =
    MakesBehind (stmt_of symbols stmt scope) (stmt_diagnostics symbols result stmt scope) (scope_behind symbols stmt scope)

-- the statements of a block, behind which its locals are no longer known
abbrev pub IsBlock : Symbols → Option ResultSymbol → List RawStmt → BodyScope → BodyScope → Option (Diagnostic Cause) → Option (Diagnostic Cause) → List Stmt → Type 0
IsBlock symbols result block scope =
    MakesBehind (block_of symbols block scope) (block_diagnostics symbols result block scope) (scope_behind_block symbols block scope)
