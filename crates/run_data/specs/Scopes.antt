-- The locals that are known at each place of a body, with their types.
use Rattle.std.specs.Prelude.{ℕ, ◌&&◌, Bool, true, false, List, [], ◌∷◌, ◌++◌, Option, Some, None, map, slice_get}
use Rattle.aerie_base.specs.declared.values.Kind.{Kind}
use Rattle.aerie_base.specs.declared.values.Value.{Value}
use Rattle.aerie_base.specs.declared.statements.Stmt.{Stmt}
use Rattle.aerie_base.specs.declared.statements.Stmt.TheOpen.{Stmt-F}
use Rattle.aerie_base.specs.expressions.Arithmetic.{value_kind}
use Rattle.aerie_base.specs.expressions.Typing.{same_kind}
use Rattle.aerie_base.specs.statements.Recursion.{stmt_gives}
use Rattle.aerie_base.specs.models.Bodies.{Setting, checked, block_checked}
use Rattle.aerie_base.specs.models.Scopes.{Scope, behind}

-- the scope behind a statement of a valid body
abbrev pub scope_or : Scope → Option Scope → Scope
scope_or scope None = scope
scope_or scope (Some found) = found

-- the scope at each place of a statement, by the scope in front of it
abbrev pub Scopes : Type 0
Scopes = Scope → List Scope

abbrev pub scopes_in : Setting → List (Stmt × Scopes) → Scopes
scopes_in setting [] scope = []
scopes_in setting (stmt ∷ rest) scope = stmt.1 scope ++ scopes_in setting rest (scope_or scope (checked setting stmt.0 scope))

-- the scope behind the braces of a block
abbrev pub behind_block : Setting → List (Stmt × Scopes) → Scope → Scope
behind_block setting block scope = behind scope (scope_or scope (block_checked setting (map (λ gift. gift.0) block) scope))

abbrev pub scopes_step : Setting → Stmt-F (Stmt × Scopes) → Scopes
scopes_step setting (Stmt-F.If test block other) scope =
    scope ∷ scopes_in setting block scope
    ++ (behind_block setting block scope ∷ scopes_in setting other (behind_block setting block scope))
scopes_step setting (Stmt-F.While test body) scope = scope ∷ scopes_in setting body scope ++ behind_block setting body scope ∷ []
scopes_step setting _ scope = scope ∷ []

abbrev pub stmt_scopes : Setting → Stmt → Scopes
stmt_scopes setting = stmt_gives Scopes (scopes_step setting)

abbrev pub block_scopes : Setting → List Stmt → Scopes
block_scopes setting [] scope = []
block_scopes setting (stmt ∷ rest) scope =
    stmt_scopes setting stmt scope ++ block_scopes setting rest (scope_or scope (checked setting stmt scope))

-- the scope at a place of a body, by the types of its parameters; none where it is no place of the body
unfoldable pub scope_at : Setting → List Kind → List Stmt → ℕ → Option Scope
scope_at setting parameters body at =
    slice_get (block_scopes setting body (map Some parameters)
    ++ scope_or [] (block_checked setting body (map Some parameters)) ∷ []) at

-- whether each local that is known has a value of its type
abbrev pub suits : Scope → List Value → Bool
suits [] locals = true
suits (None ∷ scope) [] = true
suits (Some kind ∷ scope) [] = false
suits (None ∷ scope) (value ∷ locals) = suits scope locals
suits (Some kind ∷ scope) (value ∷ locals) = same_kind (value_kind value) kind && suits scope locals
