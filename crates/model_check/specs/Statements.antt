-- Statements: what is wrong with one, and what it means.
use Rattle.std.specs.Prelude.{ℕ, not, List, [], ◌∷◌, ◌++◌, Option, Some, None}
use Rattle.aerie_base.specs.declared.places.Place.{Place}
use Rattle.aerie_base.specs.declared.statements.Emission.TheVariants as emission
use Rattle.aerie_base.specs.declared.statements.Stmt.{Stmt}
use Rattle.aerie_base.specs.declared.statements.Stmt as stmt
use Rattle.aerie_base.specs.declared.expressions.Expr.{Expr}
use Rattle.aerie_base.specs.declared.values.Kind.{Kind}
use Rattle.aerie_base.specs.declared.values.Kind.TheVariants.{Int, Truth}
use Rattle.model_reader.specs.declared.raw.expressions.RawExpr.{RawExpr}
use Rattle.model_reader.specs.declared.raw.names.RawName.{RawName}
use Rattle.model_reader.specs.declared.raw.statements.RawStmt.{RawStmt}
use Rattle.model_reader.specs.declared.raw.statements.RawStmtKind.TheOpen.{RawStmtKind-F}
use Rattle.model_check.specs.declared.causes.Cause.TheVariants.{Unknown, WrongType}
use Rattle.diagnostics.specs.declared.diagnostic.Diagnostic.{Diagnostic}
use Rattle.model_check.specs.declared.causes.Cause.{Cause}
use Rattle.model_check.specs.declared.scopes.BodyScope.{BodyScope}
use Rattle.model_check.specs.declared.symbols.CellSort.{CellSort}
use Rattle.model_check.specs.declared.symbols.CellSort.TheVariants.{Counter, Register, Accumulator}
use Rattle.model_check.specs.declared.symbols.ResultSymbol.{ResultSymbol}
use Rattle.model_check.specs.declared.symbols.Symbols.{Symbols}
use Rattle.model_check.specs.BodyScopes.{local_diagnostics, let_diagnostics}
use Rattle.model_check.specs.CellReads.{FoundLocal, FoundCell, of_cell, on_cell, cell_number, flow_sort}
use Rattle.diagnostics.specs.Diagnostics.{at_place, refused_unless}
use Rattle.model_check.specs.Expressions.{raw_kind, expr_diagnostics, typed_diagnostics, expr_of}
use Rattle.model_check.specs.Invokes.{invoke_diagnostics, result_diagnostics, invoked_number, invoke_arguments}
use Rattle.model_check.specs.Literals.{mismatch}
use Rattle.model_check.specs.NameTables.{entry_in}
use Rattle.model_check.specs.RawStatements.{StmtLevel, raw_stmt_gives}
use Rattle.model_check.specs.StatementScopes.{scope_behind, scope_behind_block}
use Rattle.model_check.specs.Waits.{wait_diagnostics, cond_of}

-- ---- what is assigned to

abbrev pub local_in : BodyScope → RawName → FoundLocal
local_in scope name = entry_in name.name scope.known

abbrev pub cell_in : Symbols → RawName → FoundCell
cell_in symbols name = entry_in name.name symbols.cells

-- a local that is no parameter
abbrev pub assigned_diagnostics : Place → FoundLocal → List (Diagnostic Cause)
assigned_diagnostics at None = at_place Unknown at
assigned_diagnostics at (Some local) = refused_unless (not local.1.is_parameter) WrongType at

abbrev pub local_kind : FoundLocal → Option Kind
local_kind None = None
local_kind (Some local) = local.1.kind

abbrev pub local_slot : FoundLocal → ℕ
local_slot None = 0
local_slot (Some local) = local.1.slot

abbrev pub counter_sort : Place → CellSort → List (Diagnostic Cause)
counter_sort at Counter = []
counter_sort at (Register kind) = at_place WrongType at
counter_sort at Accumulator = at_place WrongType at

abbrev pub register_sort : Place → CellSort → List (Diagnostic Cause)
register_sort at Counter = at_place WrongType at
register_sort at (Register kind) = []
register_sort at Accumulator = at_place WrongType at

abbrev pub register_sort_kind : CellSort → Option Kind
register_sort_kind Counter = None
register_sort_kind (Register kind) = kind
register_sort_kind Accumulator = None

-- a value of a type where another one is wanted, where one is
abbrev pub valued_diagnostics : Symbols → BodyScope → Option Kind → RawExpr → List (Diagnostic Cause)
valued_diagnostics symbols scope wanted value =
    expr_diagnostics symbols scope value ++ mismatch value.at wanted (raw_kind symbols scope value.what)

-- ---- results

-- a value is returned exactly where there is a result
abbrev pub return_diagnostics : Symbols → BodyScope → Option ResultSymbol → Place → Option RawExpr → List (Diagnostic Cause)
return_diagnostics symbols scope None at None = []
return_diagnostics symbols scope (Some result) at None = at_place WrongType at
return_diagnostics symbols scope None at (Some value) = at_place WrongType at ++ expr_diagnostics symbols scope value
return_diagnostics symbols scope (Some result) at (Some value) = valued_diagnostics symbols scope result.kind value

abbrev pub returned_of : Symbols → BodyScope → Option RawExpr → Option Expr
returned_of symbols scope None = None
returned_of symbols scope (Some value) = Some (expr_of symbols scope value)

-- ---- what is wrong with a statement

-- a local takes a value of its type
abbrev pub assign_diagnostics : Symbols → BodyScope → RawName → RawExpr → List (Diagnostic Cause)
assign_diagnostics symbols scope name value =
    assigned_diagnostics name.at (local_in scope name) ++ valued_diagnostics symbols scope (local_kind (local_in scope name)) value

-- a whole number is added to a counter
abbrev pub add_diagnostics : Symbols → BodyScope → RawName → RawExpr → List (Diagnostic Cause)
add_diagnostics symbols scope name value =
    on_cell counter_sort name.at (cell_in symbols name) ++ typed_diagnostics symbols scope Int value

-- a register is set to a value of its type
abbrev pub put_diagnostics : Symbols → BodyScope → RawName → RawExpr → List (Diagnostic Cause)
put_diagnostics symbols scope name value =
    on_cell register_sort name.at (cell_in symbols name)
    ++ valued_diagnostics symbols scope (of_cell register_sort_kind (cell_in symbols name)) value

-- a whole number is added to a part of an accumulator
abbrev pub flow_diagnostics : Symbols → BodyScope → RawName → RawExpr → List (Diagnostic Cause)
flow_diagnostics symbols scope name value =
    on_cell flow_sort name.at (cell_in symbols name) ++ typed_diagnostics symbols scope Int value

-- by the scope in front of it
abbrev pub Judging : Type 0
Judging = BodyScope → List (Diagnostic Cause)

abbrev pub judged_in_turn : Symbols → List (RawStmt × Judging) → Judging
judged_in_turn symbols [] scope = []
judged_in_turn symbols (stmt ∷ rest) scope = stmt.1 scope ++ judged_in_turn symbols rest (scope_behind symbols stmt.0 scope)

abbrev pub statements_in : {A : Type 0} → List (RawStmt × A) → List RawStmt
statements_in [] = []
statements_in (stmt ∷ rest) = stmt.0 ∷ statements_in rest

abbrev pub stmt_diagnostics_step : Symbols → Option ResultSymbol → Place → StmtLevel Judging → Judging
stmt_diagnostics_step symbols result at (RawStmtKind-F.Let name value) scope =
    let_diagnostics at scope ++ local_diagnostics symbols scope name ++ expr_diagnostics symbols scope value
stmt_diagnostics_step symbols result at (RawStmtKind-F.LetCall name call) scope =
    let_diagnostics at scope ++ local_diagnostics symbols scope name ++ invoke_diagnostics symbols scope call ++ result_diagnostics symbols call
stmt_diagnostics_step symbols result at (RawStmtKind-F.Assign name value) scope = assign_diagnostics symbols scope name value
stmt_diagnostics_step symbols result at (RawStmtKind-F.Add name value) scope = add_diagnostics symbols scope name value
stmt_diagnostics_step symbols result at (RawStmtKind-F.Put name value) scope = put_diagnostics symbols scope name value
stmt_diagnostics_step symbols result at (RawStmtKind-F.AddVolume name value) scope = flow_diagnostics symbols scope name value
stmt_diagnostics_step symbols result at (RawStmtKind-F.AddRate name value) scope = flow_diagnostics symbols scope name value
stmt_diagnostics_step symbols result at (RawStmtKind-F.Delay by) scope = typed_diagnostics symbols scope Int by
stmt_diagnostics_step symbols result at (RawStmtKind-F.WaitUntil condition) scope = wait_diagnostics symbols scope condition
stmt_diagnostics_step symbols result at (RawStmtKind-F.Spawn child) scope = invoke_diagnostics symbols scope child
stmt_diagnostics_step symbols result at (RawStmtKind-F.Call child) scope = invoke_diagnostics symbols scope child
stmt_diagnostics_step symbols result at (RawStmtKind-F.If test block other) scope =
    typed_diagnostics symbols scope Truth test
    ++ judged_in_turn symbols block scope
    ++ judged_in_turn symbols other (scope_behind_block symbols (statements_in block) scope)
stmt_diagnostics_step symbols result at (RawStmtKind-F.While test body) scope =
    typed_diagnostics symbols scope Truth test ++ judged_in_turn symbols body scope
stmt_diagnostics_step symbols result at (RawStmtKind-F.Return value) scope = return_diagnostics symbols scope result at value

-- what is wrong with a statement, by the result of its activity type and by the scope in front of it
unfoldable pub stmt_diagnostics : Symbols → Option ResultSymbol → RawStmt → Judging
stmt_diagnostics symbols result stmt = raw_stmt_gives Judging (stmt_diagnostics_step symbols result) stmt.at stmt.what

-- the same of the statements of a block
abbrev pub block_diagnostics : Symbols → Option ResultSymbol → List RawStmt → Judging
block_diagnostics symbols result [] scope = []
block_diagnostics symbols result (stmt ∷ rest) scope =
    stmt_diagnostics symbols result stmt scope ++ block_diagnostics symbols result rest (scope_behind symbols stmt scope)

-- ---- what a statement means

-- by the scope in front of it
abbrev pub RawMaking : Type 0
RawMaking = BodyScope → Stmt

abbrev pub made_in_turn : Symbols → List (RawStmt × RawMaking) → BodyScope → List Stmt
made_in_turn symbols [] scope = []
made_in_turn symbols (stmt ∷ rest) scope = stmt.1 scope ∷ made_in_turn symbols rest (scope_behind symbols stmt.0 scope)

abbrev pub assign_of : Symbols → BodyScope → RawName → RawExpr → Stmt
assign_of symbols scope name value = stmt.Assign (local_slot (local_in scope name)) (expr_of symbols scope value)

abbrev pub stmt_step : Symbols → Place → StmtLevel RawMaking → RawMaking
stmt_step symbols at (RawStmtKind-F.Let name value) scope = stmt.Let scope.count (expr_of symbols scope value)
stmt_step symbols at (RawStmtKind-F.LetCall name call) scope =
    stmt.Call (invoked_number symbols call) (invoke_arguments symbols scope call) (Some scope.count)
stmt_step symbols at (RawStmtKind-F.Assign name value) scope = assign_of symbols scope name value
stmt_step symbols at (RawStmtKind-F.Add name value) scope =
    stmt.Emit (cell_number (cell_in symbols name)) (emission.Add (expr_of symbols scope value))
stmt_step symbols at (RawStmtKind-F.Put name value) scope =
    stmt.Emit (cell_number (cell_in symbols name)) (emission.Set (expr_of symbols scope value))
stmt_step symbols at (RawStmtKind-F.AddVolume name value) scope =
    stmt.Emit (cell_number (cell_in symbols name)) (emission.Volume (expr_of symbols scope value))
stmt_step symbols at (RawStmtKind-F.AddRate name value) scope =
    stmt.Emit (cell_number (cell_in symbols name)) (emission.Rate (expr_of symbols scope value))
stmt_step symbols at (RawStmtKind-F.Delay by) scope = stmt.Delay (expr_of symbols scope by)
stmt_step symbols at (RawStmtKind-F.WaitUntil condition) scope = stmt.WaitUntil (cond_of symbols scope condition)
stmt_step symbols at (RawStmtKind-F.Spawn child) scope =
    stmt.Spawn (invoked_number symbols child) (invoke_arguments symbols scope child)
stmt_step symbols at (RawStmtKind-F.Call child) scope =
    stmt.Call (invoked_number symbols child) (invoke_arguments symbols scope child) None
stmt_step symbols at (RawStmtKind-F.If test block other) scope =
    stmt.If (expr_of symbols scope test) (made_in_turn symbols block scope)
    (made_in_turn symbols other (scope_behind_block symbols (statements_in block) scope))
stmt_step symbols at (RawStmtKind-F.While test body) scope = stmt.While (expr_of symbols scope test) (made_in_turn symbols body scope)
stmt_step symbols at (RawStmtKind-F.Return value) scope = stmt.Return (returned_of symbols scope value)

-- the statement that is meant, by the scope in front of it; of one with something wrong it is never used
unfoldable pub stmt_of : Symbols → RawStmt → RawMaking
stmt_of symbols stmt = raw_stmt_gives RawMaking (stmt_step symbols) stmt.at stmt.what

-- the same of the statements of a block
abbrev pub block_of : Symbols → List RawStmt → BodyScope → List Stmt
block_of symbols [] scope = []
block_of symbols (stmt ∷ rest) scope = stmt_of symbols stmt scope ∷ block_of symbols rest (scope_behind symbols stmt scope)
