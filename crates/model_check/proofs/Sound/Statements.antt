-- A statement that is not refused is one of the model, and the scopes behind it go along with each other.
use Rattle.std.proofs.Common.{◌≡◌, ℕ, ◌≤◌, ◌<◌, Bool, true, false, not, ◌&&◌, List, [], ◌∷◌, ◌++◌, Option, Some, None, option_and_then, is_some, nat_lt, slice_get, length, refl, sym, ap, ◌∙◌, subst, arith}
use Rattle.std.proofs.lemmas.Bool.{le-leb}
use Rattle.std.proofs.lemmas.Bool.Decides.{nat_tests}
use Rattle.aerie_base.specs.declared.expressions.Expr.{Expr}
use Rattle.aerie_base.specs.declared.operands.CellRead.TheVariants as read
use Rattle.aerie_base.specs.declared.places.Place.{Place}
use Rattle.aerie_base.specs.declared.statements.Emission.TheVariants as emission
use Rattle.aerie_base.specs.declared.statements.Stmt.{Stmt}
use Rattle.aerie_base.specs.declared.statements.Stmt as stmt
use Rattle.aerie_base.specs.declared.values.Kind.{Kind}
use Rattle.aerie_base.specs.declared.values.Kind.TheVariants.{Int, Truth}
use Rattle.aerie_base.specs.models.Bodies.{Setting, kind_in, is_in, same_scope_if, is_wanted_kind, is_emission, are_arguments, is_invoked, next_scope_if, is_assigned, is_returned, checked, block_checked}
use Rattle.aerie_base.specs.models.BodyForms.{braces_checked, checked_If, checked_While}
use Rattle.aerie_base.specs.models.Cells.{read_kind}
use Rattle.aerie_base.specs.models.Conditions.{is_condition}
use Rattle.aerie_base.specs.models.Expressions.{is_kind_of}
use Rattle.aerie_base.specs.models.Limits.{local_limit}
use Rattle.aerie_base.specs.models.Scopes.{Scope, known, with_local}
use Rattle.aerie_base.specs.models.Signatures.{Signature, signature_result}
use Rattle.model_reader.specs.Limits.{IsLimitedExpr, AreLimitedArguments, IsLimitedValue, HasLimitedExprs, RowLimited, AreLimitedStmts}
use Rattle.model_reader.specs.declared.raw.expressions.RawExpr.{RawExpr}
use Rattle.model_reader.specs.declared.raw.invokes.RawInvoke.{RawInvoke}
use Rattle.model_reader.specs.declared.raw.names.RawName.{RawName}
use Rattle.model_reader.specs.declared.raw.statements.RawStmt.{RawStmt}
use Rattle.model_reader.specs.declared.raw.statements.RawStmtKind.{RawStmtKind, Let, LetCall, Assign, Add, Put, AddVolume, AddRate, Delay, WaitUntil, Spawn, Call, If', While', Return, Row_of-RawStmt, end_of-RawStmt, more_of-RawStmt}
use Rattle.diagnostics.specs.declared.diagnostic.Diagnostic.{Diagnostic}
use Rattle.model_check.specs.declared.causes.Cause.{Cause}
use Rattle.model_check.specs.declared.scopes.BodyScope.{BodyScope}
use Rattle.model_check.specs.declared.scopes.LocalSymbol.{LocalSymbol}
use Rattle.model_check.specs.declared.symbols.CellSort.{CellSort}
use Rattle.model_check.specs.declared.symbols.CellSort.TheVariants.{Counter, Register, Accumulator}
use Rattle.model_check.specs.declared.symbols.CellSymbol.{CellSymbol}
use Rattle.model_check.specs.declared.symbols.ResultSymbol.{ResultSymbol}
use Rattle.model_check.specs.declared.symbols.Symbols.{Symbols}
use Rattle.model_check.specs.declared.symbols.TypeSymbol.{TypeSymbol}
use Rattle.model_check.specs.BodyScopes.{with_new_local, block_left, local_diagnostics, let_diagnostics}
use Rattle.model_check.specs.CellReads.{FoundLocal, FoundCell, of_cell, on_cell, cell_number, flow_sort}
use Rattle.model_check.specs.Expressions.{raw_kind, expr_diagnostics, typed_diagnostics, expr_of}
use Rattle.model_check.specs.Invokes.{arguments_diagnostics, invoked_diagnostics, invoke_diagnostics, result_wanted, result_diagnostics, result_symbol_kind, type_result_kind, call_kind, type_number, invoked_number, invoked_arguments, invoke_arguments}
use Rattle.diagnostics.specs.ShortNumbers.{short}
use Rattle.model_check.specs.NameTables.{entry_in}
use Rattle.model_check.specs.RawStatements.{StmtLevel, raw_stmt_gives, block_gives}
use Rattle.model_check.specs.StatementScopes.{Scoping, scoped_in_turn, scope_step, scope_behind, scope_behind_all}
use Rattle.model_check.specs.Statements.{local_in, cell_in, assigned_diagnostics, local_kind, local_slot, counter_sort, register_sort, register_sort_kind, valued_diagnostics, return_diagnostics, returned_of, assign_diagnostics, add_diagnostics, put_diagnostics, flow_diagnostics, Judging, judged_in_turn, statements_in, stmt_diagnostics_step, stmt_diagnostics, block_diagnostics, RawMaking, made_in_turn, stmt_step, stmt_of, block_of}
use Rattle.model_check.specs.Waits.{wait_diagnostics, cond_of}
use Rattle.diagnostics.specs.NotedInTurn.{front_empty, back_empty, holds_if_empty}
use Rattle.model_check.proofs.Sound.Empty.{three, four}
use Rattle.model_check.proofs.Sound.Knows.{Knows, IsCell}
use Rattle.model_check.proofs.Sound.Expressions.{typed_expr, wanted_expr}
use Rattle.model_check.proofs.Sound.Conditions.{sound_wait}
use Rattle.model_check.proofs.Sound.Invokes.{given, sound_arguments}
use Rattle.model_check.proofs.Sound.Scopes.{all_at, entry_stands, SameResult, Suits, IsKnown, Follows, knows_here, Passes, stays, and_then, declared, next_local, braces_left}

module _ (symbols : Symbols) (returns : Option ResultSymbol) (setting : Setting) (suits : Suits symbols returns setting) where
  abbrev Along : BodyScope → Scope → Type 0
  Along = Follows setting.parameters

  abbrev Goes : BodyScope → BodyScope → Scope → Option Scope → Type 0
  Goes = Passes setting.parameters

  -- ---- one statement, by the scope in front of it

  module _ (scope : BodyScope) (slots : Scope) (follows : Along scope slots) (within : setting.parameters ≤ length slots) where
    knows : Knows symbols scope setting.enums (known slots) (read_kind setting.cells)
    knows = knows_here symbols returns setting scope slots suits follows

    -- a value of the type that is wanted of it
    value_in : (wanted : Kind) (raw : RawExpr) → IsLimitedExpr raw → typed_diagnostics symbols scope wanted raw ≡ [] → is_in setting slots (expr_of symbols scope raw) wanted ≡ true
    value_in wanted raw limited none = wanted_expr symbols scope setting.enums (known slots) (read_kind setting.cells) knows wanted raw limited none

    -- the same, where the type that is wanted is one that is found
    valued : (wanted : Option Kind) (kind : Kind) (raw : RawExpr) → wanted ≡ Some kind → IsLimitedExpr raw → valued_diagnostics symbols scope wanted raw ≡ []
        → is_kind_of (kind_in setting slots (expr_of symbols scope raw)) kind ≡ true
    valued wanted kind raw e limited none = value_in kind raw limited (subst (λ (k : Option Kind). valued_diagnostics symbols scope k raw ≡ []) e none)

    goes_same : (right : Bool) → right ≡ true → Goes scope scope slots (same_scope_if right slots)
    goes_same right e = stays setting.parameters scope slots (same_scope_if right slots) follows (ap (λ (b : Bool). same_scope_if b slots) e)

    few_locals : (at : Place) → let_diagnostics at scope ≡ [] → scope.count < local_limit
    few_locals at none = let e = holds_if_empty (nat_lt scope.count local_limit) _ at none in grind (arith, nat_tests)

    new_local : (at : Place) (name : RawName) (kind : Option Kind) (in_model : Option Kind) (of : Kind) → let_diagnostics at scope ≡ [] → kind ≡ Some of → in_model ≡ Some of
        → Goes scope (with_new_local scope name.name kind false) slots (with_local scope.count in_model slots)
    new_local at name kind in_model of none raw_is is =
        subst (λ (k : Option Kind). Goes scope (with_new_local scope name.name k false) slots (with_local scope.count in_model slots)) (sym raw_is)
        (subst (λ (answer : Option Scope). Goes scope (with_new_local scope name.name (Some of) false) slots answer)
        (sym (ap (λ (k : Option Kind). with_local scope.count k slots) is ∙ next_local scope slots of follows.count))
        (declared setting.parameters scope slots name.name of false follows (few_locals at none) (λ e. omega (arith, within, follows.count))))

    let_sound : (at : Place) (name : RawName) (value : RawExpr) → IsLimitedExpr value → let_diagnostics at scope ++ local_diagnostics symbols scope name ++ expr_diagnostics symbols scope value ≡ []
        → Goes scope (with_new_local scope name.name (raw_kind symbols scope value.what) false) slots (with_local scope.count (kind_in setting slots (expr_of symbols scope value)) slots)
    let_sound at name value limited none =
        let rest = back_empty (let_diagnostics at scope) _ (three (let_diagnostics at scope) (local_diagnostics symbols scope name) _ none) in
        let sound = typed_expr symbols scope setting.enums (known slots) (read_kind setting.cells) knows value limited (back_empty (local_diagnostics symbols scope name) _ rest) in
        new_local at name (raw_kind symbols scope value.what) (kind_in setting slots (expr_of symbols scope value)) sound.of (front_empty (let_diagnostics at scope) _ (three (let_diagnostics at scope) (local_diagnostics symbols scope name) _ none)) sound.raw_is sound.typed_is

    -- ---- starts of activities

    record IsStarted (call : RawInvoke) (found : Option (ℕ × TypeSymbol)) : Type 0 where
      signature : Signature
      stands : slice_get setting.signatures (type_number found) ≡ Some signature
      arguments : are_arguments setting slots (invoked_arguments symbols scope call found) signature.parameters ≡ true
      result : (type : ℕ × TypeSymbol) → found ≡ Some type → SameResult type.1.result signature.result

    started : (call : RawInvoke) (found : Option (ℕ × TypeSymbol)) → entry_in call.name.name symbols.types ≡ found → AreLimitedArguments call.arguments
        → invoked_diagnostics symbols scope call found ≡ [] → IsStarted call found
    started call None e limited none = cc
    started call (Some type) e limited none =
        let parameters = type.1.parameters in
        let its = suits.type call.name.name type e in
        let signature = its.0 in
        let given_none = front_empty (arguments_diagnostics symbols scope parameters [] call.arguments) _ none in
        let missing_none = back_empty (arguments_diagnostics symbols scope parameters [] call.arguments) _ none in
        record {
          signature = signature;
          stands = its.1;
          arguments =
              sound_arguments symbols scope setting.enums (known slots) (read_kind setting.cells) knows parameters setting slots call.arguments call.name.at (λ its_expr kind. refl)
              (λ number raw is_given. given symbols scope setting.enums (known slots) (read_kind setting.cells) knows parameters number [] call.arguments raw limited given_none is_given)
              signature.parameters its.2.0 missing_none;
          result = λ other same. subst (λ (found : ℕ × TypeSymbol). SameResult found.1.result signature.result) (some_is same) its.2.1;
        }
      where
        some_is : {A : Type 0} {a b : A} → Some a ≡ Some b → a ≡ b
        some_is h = cc

    start : (call : RawInvoke) → AreLimitedArguments call.arguments → invoke_diagnostics symbols scope call ≡ [] → IsStarted call (entry_in call.name.name symbols.types)
    unfolding invoke_diagnostics
    start call limited none = started call (entry_in call.name.name symbols.types) refl limited none

    is_started : (call : RawInvoke) → IsStarted call (entry_in call.name.name symbols.types)
        → is_invoked setting slots (slice_get setting.signatures (invoked_number symbols call)) (invoke_arguments symbols scope call) ≡ true
    unfolding invoke_arguments
    is_started call it = ap (λ (signature : Option Signature). is_invoked setting slots signature (invoke_arguments symbols scope call)) it.stands ∙ it.arguments

    has_result : (symbol : Option ResultSymbol) (result : Option Kind) → is_some symbol ≡ true → SameResult symbol result → (of : Kind) × (result_symbol_kind symbol ≡ Some of) × (result ≡ Some of)
    has_result None result some same = cc
    has_result (Some symbol) None some same = absurd same
    has_result (Some symbol) (Some kind) some same = (kind, same, refl)

    called : (call : RawInvoke) (found : Option (ℕ × TypeSymbol)) → IsStarted call found → invoked_diagnostics symbols scope call found ≡ [] → result_wanted call.name.at found ≡ []
        → (of : Kind) × (type_result_kind found ≡ Some of) × (signature_result (slice_get setting.signatures (type_number found)) ≡ Some of)
    called call None it invoked none = cc
    called call (Some type) it invoked none =
        let signature = it.signature in
        let both = has_result type.1.result signature.result (holds_if_empty (is_some type.1.result) _ call.name.at none) (it.result type refl) in
        (both.0, both.1, ap signature_result it.stands ∙ both.2)

    let_call_sound : (at : Place) (name : RawName) (call : RawInvoke) → AreLimitedArguments call.arguments
        → let_diagnostics at scope ++ local_diagnostics symbols scope name ++ invoke_diagnostics symbols scope call ++ result_diagnostics symbols call ≡ []
        → Goes scope (with_new_local scope name.name (call_kind symbols call) false) slots
        (next_scope_if (is_invoked setting slots (slice_get setting.signatures (invoked_number symbols call)) (invoke_arguments symbols scope call))
        (with_local scope.count (signature_result (slice_get setting.signatures (invoked_number symbols call))) slots))
    unfolding invoke_diagnostics
    let_call_sound at name call limited none =
        let rest = back_empty (local_diagnostics symbols scope name) _ (back_empty (let_diagnostics at scope) _ (four (let_diagnostics at scope) (local_diagnostics symbols scope name) (invoke_diagnostics symbols scope call) _ none)) in
        let invoked = front_empty (invoke_diagnostics symbols scope call) _ rest in
        let it = start call limited invoked in
        let result = called call (entry_in call.name.name symbols.types) it invoked (back_empty (invoke_diagnostics symbols scope call) _ rest) in
        subst (Goes scope (with_new_local scope name.name (call_kind symbols call) false) slots) (sym (ap (λ (b : Bool). next_scope_if b (with_local scope.count (signature_result (slice_get setting.signatures (invoked_number symbols call))) slots)) (is_started call it)))
        (new_local at name (call_kind symbols call) (signature_result (slice_get setting.signatures (invoked_number symbols call))) result.0 (front_empty (let_diagnostics at scope) _ (four (let_diagnostics at scope) (local_diagnostics symbols scope name) (invoke_diagnostics symbols scope call) _ none)) result.1 result.2)

    spawn_sound : (call : RawInvoke) → AreLimitedArguments call.arguments → invoke_diagnostics symbols scope call ≡ []
        → Goes scope scope slots (same_scope_if (is_invoked setting slots (slice_get setting.signatures (invoked_number symbols call)) (invoke_arguments symbols scope call)) slots)
    spawn_sound call limited none = goes_same _ (is_started call (start call limited none))

    call_sound : (call : RawInvoke) → AreLimitedArguments call.arguments → invoke_diagnostics symbols scope call ≡ []
        → Goes scope scope slots (next_scope_if (is_invoked setting slots (slice_get setting.signatures (invoked_number symbols call)) (invoke_arguments symbols scope call)) (Some slots))
    call_sound call limited none =
        stays setting.parameters scope slots _ follows (ap (λ (b : Bool). next_scope_if b (Some slots)) (is_started call (start call limited none)))

    -- ---- changes of locals and cells

    assigned : (at : Place) (found : FoundLocal) (value : Expr) → ((entry : ℕ × LocalSymbol) → found ≡ Some entry → IsKnown setting.parameters slots entry.1) → assigned_diagnostics at found ≡ []
        → ((kind : Kind) → local_kind found ≡ Some kind → is_kind_of (kind_in setting slots value) kind ≡ true) → is_assigned setting slots (local_slot found) value ≡ true
    assigned at None value its none fits = cc
    assigned at (Some local) value its none fits =
        let is = its local refl in
        let typed_as = is.0 in
        let free = is.1 (not_true local.1.is_parameter (holds_if_empty (not local.1.is_parameter) _ at none)) in
        rw (le-leb setting.parameters local.1.slot free, typed_as.2) (fits typed_as.0 typed_as.1)
      where
        not_true : (b : Bool) → not b ≡ true → b ≡ false
        not_true true e = cc
        not_true false e = refl

    assign_sound : (name : RawName) (value : RawExpr) → IsLimitedExpr value → assign_diagnostics symbols scope name value ≡ []
        → Goes scope scope slots (same_scope_if (is_assigned setting slots (local_slot (local_in scope name)) (expr_of symbols scope value)) slots)
    assign_sound name value limited none =
        let found = local_in scope name in
        goes_same _ (assigned name.at found (expr_of symbols scope value) (λ entry e. all_at (IsKnown setting.parameters slots) scope.known.values entry.0 entry.1 follows.locals (entry_stands name.name scope.known entry e))
        (front_empty (assigned_diagnostics name.at found) _ none) (λ kind e. valued (local_kind found) kind value e limited (back_empty (assigned_diagnostics name.at found) _ none)))

    abbrev AreCells : FoundCell → Type 0
    AreCells found = (entry : ℕ × CellSymbol) → found ≡ Some entry → IsCell (read_kind setting.cells) (short entry.0) entry.1.sort

    counter_is : (at : Place) (cell : ℕ) (sort : CellSort) → IsCell (read_kind setting.cells) cell sort → counter_sort at sort ≡ [] → is_kind_of (read_kind setting.cells (read.Counter cell)) Int ≡ true
    counter_is at cell Counter is none = ap (λ (k : Option Kind). is_kind_of k Int) is
    counter_is at cell (Register kind) is none = cc
    counter_is at cell Accumulator is none = cc

    flow_is : (at : Place) (cell : ℕ) (sort : CellSort) → IsCell (read_kind setting.cells) cell sort → flow_sort at sort ≡ []
        → (is_kind_of (read_kind setting.cells (read.Volume cell)) Int ≡ true) × (is_kind_of (read_kind setting.cells (read.Rate cell)) Int ≡ true)
    flow_is at cell Counter is none = cc
    flow_is at cell (Register kind) is none = cc
    flow_is at cell Accumulator is none = (ap (λ (k : Option Kind). is_kind_of k Int) is.0, ap (λ (k : Option Kind). is_kind_of k Int) is.1)

    register_is : (at : Place) (cell : ℕ) (sort : CellSort) → IsCell (read_kind setting.cells) cell sort → register_sort at sort ≡ []
        → (of : Kind) × (register_sort_kind sort ≡ Some of) × (read_kind setting.cells (read.Register cell) ≡ Some of)
    register_is at cell Counter is none = cc
    register_is at cell (Register kind) is none = (is.0, is.1, is.2)
    register_is at cell Accumulator is none = cc

    both : (a b : Bool) → a ≡ true → b ≡ true → (a && b) ≡ true
    both a b e f = rw (e, f) refl

    added : (at : Place) (found : FoundCell) (value : Expr) → AreCells found → on_cell counter_sort at found ≡ [] → is_in setting slots value Int ≡ true
        → is_emission setting slots (cell_number found) (emission.Add value) ≡ true
    added at None value are none fits = cc
    added at (Some cell) value are none fits = both _ _ (counter_is at (short cell.0) cell.1.sort (are cell refl) none) fits

    flowed : (at : Place) (found : FoundCell) (value : Expr) → AreCells found → on_cell flow_sort at found ≡ [] → is_in setting slots value Int ≡ true
        → (is_emission setting slots (cell_number found) (emission.Volume value) ≡ true) × (is_emission setting slots (cell_number found) (emission.Rate value) ≡ true)
    flowed at None value are none fits = cc
    flowed at (Some cell) value are none fits =
        let is = flow_is at (short cell.0) cell.1.sort (are cell refl) none in
        (both _ _ is.0 fits, both _ _ is.1 fits)

    put : (at : Place) (found : FoundCell) (value : Expr) → AreCells found → on_cell register_sort at found ≡ []
        → ((kind : Kind) → of_cell register_sort_kind found ≡ Some kind → is_kind_of (kind_in setting slots value) kind ≡ true)
        → is_emission setting slots (cell_number found) (emission.Set value) ≡ true
    put at None value are none fits = cc
    put at (Some cell) value are none fits =
        let is = register_is at (short cell.0) cell.1.sort (are cell refl) none in
        ap (λ (k : Option Kind). is_wanted_kind k (kind_in setting slots value)) is.2 ∙ fits is.0 is.1

    abbrev its_cells : (name : RawName) → AreCells (cell_in symbols name)
    its_cells name = suits.cell name.name

    add_sound : (name : RawName) (value : RawExpr) → IsLimitedExpr value → add_diagnostics symbols scope name value ≡ []
        → Goes scope scope slots (same_scope_if (is_emission setting slots (cell_number (cell_in symbols name)) (emission.Add (expr_of symbols scope value))) slots)
    add_sound name value limited none =
        goes_same _ (added name.at (cell_in symbols name) (expr_of symbols scope value) (its_cells name) (front_empty (on_cell counter_sort name.at (cell_in symbols name)) _ none)
        (value_in Int value limited (back_empty (on_cell counter_sort name.at (cell_in symbols name)) _ none)))

    flow_sound : (name : RawName) (value : RawExpr) → IsLimitedExpr value → flow_diagnostics symbols scope name value ≡ []
        → Goes scope scope slots (same_scope_if (is_emission setting slots (cell_number (cell_in symbols name)) (emission.Volume (expr_of symbols scope value))) slots)
        × Goes scope scope slots (same_scope_if (is_emission setting slots (cell_number (cell_in symbols name)) (emission.Rate (expr_of symbols scope value))) slots)
    flow_sound name value limited none =
        let are = flowed name.at (cell_in symbols name) (expr_of symbols scope value) (its_cells name) (front_empty (on_cell flow_sort name.at (cell_in symbols name)) _ none)
        (value_in Int value limited (back_empty (on_cell flow_sort name.at (cell_in symbols name)) _ none)) in
        (goes_same _ are.0, goes_same _ are.1)

    put_sound : (name : RawName) (value : RawExpr) → IsLimitedExpr value → put_diagnostics symbols scope name value ≡ []
        → Goes scope scope slots (same_scope_if (is_emission setting slots (cell_number (cell_in symbols name)) (emission.Set (expr_of symbols scope value))) slots)
    put_sound name value limited none =
        goes_same _ (put name.at (cell_in symbols name) (expr_of symbols scope value) (its_cells name) (front_empty (on_cell register_sort name.at (cell_in symbols name)) _ none)
        (λ kind e. valued (of_cell register_sort_kind (cell_in symbols name)) kind value e limited (back_empty (on_cell register_sort name.at (cell_in symbols name)) _ none)))

    -- ---- returns

    returned : (result : Option ResultSymbol) (in_model : Option Kind) (at : Place) (value : Option RawExpr) → SameResult result in_model → IsLimitedValue value → return_diagnostics symbols scope result at value ≡ []
        → is_returned setting slots (returned_of symbols scope value) in_model ≡ true
    returned None None at None same limited none = refl
    returned None None at (Some value) same limited none = cc
    returned None (Some kind) at value same limited none = absurd same
    returned (Some result) None at value same limited none = absurd same
    returned (Some result) (Some kind) at None same limited none = cc
    returned (Some result) (Some kind) at (Some value) same limited none = valued result.kind kind value same limited none

    return_sound : (at : Place) (value : Option RawExpr) → IsLimitedValue value → return_diagnostics symbols scope returns at value ≡ []
        → Goes scope scope slots (same_scope_if (is_returned setting slots (returned_of symbols scope value) setting.result) slots)
    return_sound at value limited none = goes_same _ (returned returns setting.result at value suits.result limited none)

    wait_sound : (raw : RawExpr) → IsLimitedExpr raw → wait_diagnostics symbols scope raw ≡ []
        → Goes scope scope slots (same_scope_if (is_condition setting.enums (known slots) (read_kind setting.cells) (cond_of symbols scope raw)) slots)
    wait_sound raw limited none = goes_same _ (sound_wait symbols scope setting.enums (known slots) (read_kind setting.cells) knows raw limited none)

  -- ---- statements with blocks

  abbrev judged : Place → RawStmtKind → Judging
  judged = raw_stmt_gives Judging (stmt_diagnostics_step symbols returns)

  abbrev made : Place → RawStmtKind → RawMaking
  made = raw_stmt_gives RawMaking (stmt_step symbols)

  abbrev scoped : Place → RawStmtKind → Scoping
  scoped = raw_stmt_gives Scoping (scope_step symbols)

  abbrev row_judged : {m : _} → Row_of-RawStmt m → BodyScope → List (Diagnostic Cause)
  row_judged row = judged_in_turn symbols (block_gives Judging (stmt_diagnostics_step symbols returns) row)

  abbrev row_made : {m : _} → Row_of-RawStmt m → BodyScope → List Stmt
  row_made row = made_in_turn symbols (block_gives RawMaking (stmt_step symbols) row)

  abbrev row_scoped : {m : _} → Row_of-RawStmt m → BodyScope → BodyScope
  row_scoped row = scoped_in_turn (block_gives Scoping (scope_step symbols) row)

  -- the scope behind the statements of a row
  row_behind : (A : Type 0) (step : Place → StmtLevel A → A) {m : _} (row : Row_of-RawStmt m) (scope : BodyScope) → scope_behind_all symbols (statements_in (block_gives A step row)) scope ≡ row_scoped row scope
  unfolding scope_behind
  row_behind A step end_of-RawStmt scope = refl
  row_behind A step (more_of-RawStmt at what rest) scope = row_behind A step rest (scoped at what scope)

  within_behind : (scope after : BodyScope) (slots : Scope) (answer : Option Scope) → setting.parameters ≤ length slots → (passes : Goes scope after slots answer) → setting.parameters ≤ length passes.behind_it
  within_behind scope after slots answer within passes = omega (arith, within, passes.rises)

  -- an `if`, by what its blocks give
  if_goes : (scope first second : BodyScope) (slots : Scope) (test : Expr) (block other : List Stmt) → is_in setting slots test Truth ≡ true
      → (one : Goes scope first slots (braces_checked setting block slots)) → Goes first second one.behind_it (braces_checked setting other one.behind_it)
      → Goes scope second slots (checked setting (stmt.If test block other) slots)
  if_goes scope first second slots test block other right one two =
      subst (Goes scope second slots) (sym (checked_If setting test block other slots ∙ ap (λ (b : Bool). next_scope_if b (option_and_then (braces_checked setting other) (braces_checked setting block slots))) right))
      (and_then setting.parameters scope first second slots (braces_checked setting block slots) (braces_checked setting other) one two)

  while_goes : (scope after : BodyScope) (slots : Scope) (test : Expr) (body : List Stmt) → is_in setting slots test Truth ≡ true → Goes scope after slots (braces_checked setting body slots)
      → Goes scope after slots (checked setting (stmt.While test body) slots)
  while_goes scope after slots test body right one =
      subst (Goes scope after slots) (sym (checked_While setting test body slots ∙ ap (λ (b : Bool). next_scope_if b (braces_checked setting body slots)) right)) one

  mutual
    unfolding checked scope_behind

    sound_stmt : (at : Place) (what : RawStmtKind) (scope : BodyScope) (slots : Scope) → Along scope slots → setting.parameters ≤ length slots → HasLimitedExprs what → judged at what scope ≡ []
        → Goes scope (scoped at what scope) slots (checked setting (made at what scope) slots)
    sound_stmt at (Let name value) scope slots follows within limited none = let_sound scope slots follows within at name value limited none
    sound_stmt at (LetCall name call) scope slots follows within limited none = let_call_sound scope slots follows within at name call limited none
    sound_stmt at (Assign name value) scope slots follows within limited none = assign_sound scope slots follows within name value limited none
    sound_stmt at (Add name value) scope slots follows within limited none = add_sound scope slots follows within name value limited none
    sound_stmt at (Put name value) scope slots follows within limited none = put_sound scope slots follows within name value limited none
    sound_stmt at (AddVolume name value) scope slots follows within limited none = (flow_sound scope slots follows within name value limited none).0
    sound_stmt at (AddRate name value) scope slots follows within limited none = (flow_sound scope slots follows within name value limited none).1
    sound_stmt at (Delay by) scope slots follows within limited none = goes_same scope slots follows within _ (value_in scope slots follows within Int by limited none)
    sound_stmt at (WaitUntil condition) scope slots follows within limited none = wait_sound scope slots follows within condition limited none
    sound_stmt at (Spawn child) scope slots follows within limited none = spawn_sound scope slots follows within child limited none
    sound_stmt at (Call child) scope slots follows within limited none = call_sound scope slots follows within child limited none
    sound_stmt at (If' test _ block _ other) scope slots follows within limited none =
        let rest = back_empty (typed_diagnostics symbols scope Truth test) _ (three (typed_diagnostics symbols scope Truth test) (row_judged block scope) _ none) in
        let right = value_in scope slots follows within Truth test limited.0 (front_empty (typed_diagnostics symbols scope Truth test) _ (three (typed_diagnostics symbols scope Truth test) (row_judged block scope) _ none)) in
        let one = braces_left setting.parameters scope (row_scoped block scope) slots (block_checked setting (row_made block scope) slots) follows (sound_row block scope slots follows within limited.1 (front_empty (row_judged block scope) _ rest)) in
        let first = block_left scope (row_scoped block scope) in
        let second_none = subst (λ (here : BodyScope). row_judged other here ≡ []) (ap (block_left scope) (row_behind Judging (stmt_diagnostics_step symbols returns) block scope)) (back_empty (row_judged block scope) _ rest) in
        let two = braces_left setting.parameters first (row_scoped other first) one.behind_it (block_checked setting (row_made other first) one.behind_it) one.follows (sound_row other first one.behind_it one.follows (within_behind scope first slots _ within one) limited.2 second_none) in
        subst (λ (here : BodyScope). Goes scope (block_left first (row_scoped other first)) slots (checked setting (stmt.If (expr_of symbols scope test) (row_made block scope) (row_made other here)) slots))
        (sym (ap (block_left scope) (row_behind RawMaking (stmt_step symbols) block scope)))
        (if_goes scope first (block_left first (row_scoped other first)) slots (expr_of symbols scope test) (row_made block scope) (row_made other first) right one two)
    sound_stmt at (While' test _ body) scope slots follows within limited none =
        let right = value_in scope slots follows within Truth test limited.0 (front_empty (typed_diagnostics symbols scope Truth test) _ none) in
        while_goes scope (block_left scope (row_scoped body scope)) slots (expr_of symbols scope test) (row_made body scope) right
        (braces_left setting.parameters scope (row_scoped body scope) slots (block_checked setting (row_made body scope) slots) follows (sound_row body scope slots follows within limited.1 (back_empty (typed_diagnostics symbols scope Truth test) _ none)))
    sound_stmt at (Return value) scope slots follows within limited none = return_sound scope slots follows within at value limited none

    sound_row : {m : _} (row : Row_of-RawStmt m) (scope : BodyScope) (slots : Scope) → Along scope slots → setting.parameters ≤ length slots → RowLimited row → row_judged row scope ≡ []
        → Goes scope (row_scoped row scope) slots (block_checked setting (row_made row scope) slots)
    sound_row end_of-RawStmt scope slots follows within limited none = stays setting.parameters scope slots (Some slots) follows refl
    sound_row (more_of-RawStmt at what rest) scope slots follows within limited none =
        let middle = scoped at what scope in
        let one = sound_stmt at what scope slots follows within limited.0 (front_empty (judged at what scope) _ none) in
        let two = sound_row rest middle one.behind_it one.follows (within_behind scope middle slots _ within one) limited.1 (back_empty (judged at what scope) _ none) in
        and_then setting.parameters scope middle (row_scoped rest middle) slots (checked setting (made at what scope) slots) (block_checked setting (row_made rest middle)) one two

  -- the statements of a body that are not refused are those of the model
  pub sound_body : (body : List RawStmt) (scope : BodyScope) (slots : Scope) → Along scope slots → setting.parameters ≤ length slots → AreLimitedStmts body → block_diagnostics symbols returns body scope ≡ []
      → Goes scope (scope_behind_all symbols body scope) slots (block_checked setting (block_of symbols body scope) slots)
  unfolding stmt_diagnostics stmt_of scope_behind
  sound_body [] scope slots follows within limited none = stays setting.parameters scope slots (Some slots) follows refl
  sound_body (statement ∷ rest) scope slots follows within limited none =
      let middle = scoped statement.at statement.what scope in
      let one = sound_stmt statement.at statement.what scope slots follows within limited.0 (front_empty (judged statement.at statement.what scope) _ none) in
      let two = sound_body rest middle one.behind_it one.follows (within_behind scope middle slots _ within one) limited.1 (back_empty (judged statement.at statement.what scope) _ none) in
      and_then setting.parameters scope middle (scope_behind_all symbols rest middle) slots (checked setting (made statement.at statement.what scope) slots) (block_checked setting (block_of symbols rest middle)) one two
