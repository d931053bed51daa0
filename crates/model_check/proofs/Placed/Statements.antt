-- Refusals of statements stand at places of theirs, or where an enumeration or a cell is declared.
use Rattle.std.proofs.Common.{ℕ, ◌+◌, Bool, true, false, not, ◌||◌, List, [], ◌∷◌, ◌++◌, Option, Some, None, option_map, is_some, nat_lt, if◌then◌else◌}
use Rattle.std.specs.List.{AllByRecursion}
use Rattle.aerie_base.specs.declared.places.Place.{Place}
use Rattle.aerie_base.specs.declared.values.Kind.{Kind}
use Rattle.aerie_base.specs.declared.values.Kind.TheVariants.{Int, Truth}
use Rattle.aerie_base.specs.models.Limits.{local_limit}
use Rattle.aerie_base.specs.models.Names.{is_name_among}
use Rattle.model_reader.specs.declared.raw.expressions.RawExpr.{RawExpr}
use Rattle.model_reader.specs.declared.raw.invokes.RawInvoke.{RawInvoke}
use Rattle.model_reader.specs.declared.raw.names.RawName.{RawName}
use Rattle.model_reader.specs.declared.raw.statements.RawStmt.{RawStmt}
use Rattle.model_reader.specs.declared.raw.statements.RawStmtKind.{RawStmtKind, Let, LetCall, Assign, Add, Put, AddVolume, AddRate, Delay, WaitUntil, Spawn, Call, If', While', Return, Row_of-RawStmt, end_of-RawStmt, more_of-RawStmt}
use Rattle.model_check.specs.declared.causes.Cause.TheVariants.{Duplicate, WrongType}
use Rattle.model_check.specs.declared.scopes.BodyScope.{BodyScope}
use Rattle.model_check.specs.declared.symbols.CellSort.TheVariants.{Counter, Register, Accumulator}
use Rattle.model_check.specs.declared.symbols.CellSymbol.{CellSymbol}
use Rattle.model_check.specs.declared.symbols.EnumSymbol.{EnumSymbol}
use Rattle.model_check.specs.declared.symbols.ParameterSymbol.{ParameterSymbol}
use Rattle.model_check.specs.declared.symbols.ResultSymbol.{ResultSymbol}
use Rattle.model_check.specs.declared.symbols.Symbols.{Symbols}
use Rattle.model_check.specs.declared.symbols.TypeSymbol.{TypeSymbol}
use Rattle.model_check.specs.BodyScopes.{later_place, clash, enum_place, cell_place, local_diagnostics, let_diagnostics}
use Rattle.model_check.specs.CellReads.{FoundLocal, on_cell, flow_sort}
use Rattle.diagnostics.specs.Diagnostics.{is_place_before, refused_unless}
use Rattle.model_check.specs.Expressions.{raw_kind, expr_diagnostics, typed_diagnostics}
use Rattle.model_check.specs.Invokes.{NamedArgument, Parameters, given_value, parameter_kind, argument_name_diagnostics, argument_diagnostics, arguments_diagnostics, missing_diagnostics, values_diagnostics, invoked_diagnostics, invoke_diagnostics, result_wanted}
use Rattle.model_check.specs.NameTables.{entry_in}
use Rattle.model_check.specs.RawPlaces.{places_in_all, places_if_any, expr_places, argument_places, invoke_places, given_places, stmt_places_step, stmt_places}
use Rattle.model_check.specs.RawStatements.{raw_stmt_gives, block_gives}
use Rattle.model_check.specs.StatementScopes.{scope_behind, scope_behind_block}
use Rattle.model_check.specs.Statements.{local_in, cell_in, assigned_diagnostics, local_kind, counter_sort, register_sort, valued_diagnostics, return_diagnostics, flow_diagnostics, Judging, judged_in_turn, statements_in, stmt_diagnostics_step, stmt_diagnostics, block_diagnostics}
use Rattle.model_check.proofs.Placed.Parts.{in_front, behind, IfFound, found_by_name, Places, Stand, stand_both, unless, mismatched, Judges, flow_judges, cell_placed}
use Rattle.model_check.proofs.Placed.Expressions.{first_of, expr_placed, typed_placed}
use Rattle.model_check.proofs.Placed.Forms.{wait_placed}

module _ (P : Place → Type 0) (symbols : Symbols) (enums : AllByRecursion (λ enum. P enum.at) symbols.enums.values) (cells : AllByRecursion (λ cell. P cell.at) symbols.cells.values) where
  -- ---- new locals

  later : (one other : Place) → P one → P other → P (later_place one other)
  later one other is are = go (is_place_before one other)
    where
      go : (b : Bool) → P (if b then other else one)
      go true = are
      go false = is

  enum_clash : (at : Place) (found : Option (ℕ × EnumSymbol)) → P at → IfFound (λ enum. P enum.at) found → Stand P (clash at (option_map enum_place found))
  enum_clash at None is are = tt
  enum_clash at (Some enum) is are = (later at enum.1.at is are, tt)

  cell_clash : (at : Place) (found : Option (ℕ × CellSymbol)) → P at → IfFound (λ cell. P cell.at) found → Stand P (clash at (option_map cell_place found))
  cell_clash at None is are = tt
  cell_clash at (Some cell) is are = (later at cell.1.at is are, tt)

  pub local_placed : (scope : BodyScope) (name : RawName) → P name.at → Stand P (local_diagnostics symbols scope name)
  local_placed scope name is =
      let known = unless P (not (is_name_among name.name scope.names)) Duplicate name.at is in
      let enum = enum_clash name.at (entry_in name.name symbols.enums) is (found_by_name (λ enum. P enum.at) name.name symbols.enums enums) in
      let cell = cell_clash name.at (entry_in name.name symbols.cells) is (found_by_name (λ cell. P cell.at) name.name symbols.cells cells) in
      stand_both P _ _ (stand_both P _ _ known enum) cell

  let_placed : (at : Place) (scope : BodyScope) → P at → Stand P (let_diagnostics at scope)
  let_placed at scope is = unless P (nat_lt scope.count local_limit) _ at is

  module _ (scope : BodyScope) where
    -- ---- values

    valued : (wanted : Option Kind) (raw : RawExpr) → Places P (expr_places raw) → Stand P (valued_diagnostics symbols scope wanted raw)
    valued wanted raw all =
        stand_both P (expr_diagnostics symbols scope raw) _ (expr_placed P symbols scope raw all) (mismatched P raw.at wanted (raw_kind symbols scope raw.what) (first_of P raw all))

    -- ---- starts of activities

    argument_name : (parameters : Parameters) (earlier : List NamedArgument) (name : RawName) (found : Option (ℕ × ParameterSymbol)) → P name.at → Stand P (argument_name_diagnostics parameters earlier name found)
    argument_name parameters earlier name None is = (is, tt)
    argument_name parameters earlier name (Some parameter) is = unless P (not (is_some (given_value parameters parameter.0 earlier))) Duplicate name.at is

    argument : (parameters : Parameters) (earlier : List NamedArgument) (one : NamedArgument) → Places P (argument_places one) → Stand P (argument_diagnostics symbols scope parameters earlier one)
    argument parameters earlier one all =
        let found = entry_in one.0.name parameters in
        stand_both P (argument_name_diagnostics parameters earlier one.0 found ++ expr_diagnostics symbols scope one.1) _
        (stand_both P (argument_name_diagnostics parameters earlier one.0 found) _ (argument_name parameters earlier one.0 found all.0) (expr_placed P symbols scope one.1 all.1))
        (mismatched P one.1.at (parameter_kind found) (raw_kind symbols scope one.1.what) (first_of P one.1 all.1))

    arguments : (parameters : Parameters) (earlier given : List NamedArgument) → Places P (places_in_all argument_places given) → Stand P (arguments_diagnostics symbols scope parameters earlier given)
    arguments parameters earlier [] all = tt
    arguments parameters earlier (one ∷ rest) all =
        stand_both P (argument_diagnostics symbols scope parameters earlier one) _ (argument parameters earlier one (in_front P (argument_places one) _ all))
        (arguments parameters (earlier ++ one ∷ []) rest (behind P (argument_places one) _ all))

    missing : (at : Place) (parameters : Parameters) (given : List NamedArgument) (number : ℕ) (rest : List ParameterSymbol) → P at → Stand P (missing_diagnostics at parameters given number rest)
    missing at parameters given number [] is = tt
    missing at parameters given number (parameter ∷ rest) is =
        stand_both P (refused_unless (is_some parameter.default || is_some (given_value parameters number given)) WrongType at) _
        (unless P (is_some parameter.default || is_some (given_value parameters number given)) WrongType at is) (missing at parameters given (number + 1) rest is)

    values : (given : List NamedArgument) → Places P (places_in_all argument_places given) → Stand P (values_diagnostics symbols scope given)
    values [] all = tt
    values (one ∷ rest) all =
        stand_both P (expr_diagnostics symbols scope one.1) _ (expr_placed P symbols scope one.1 (in_front P (argument_places one) _ all).1) (values rest (behind P (argument_places one) _ all))

    invoked : (call : RawInvoke) (found : Option (ℕ × TypeSymbol)) → Places P (invoke_places call) → Stand P (invoked_diagnostics symbols scope call found)
    invoked call None all = (all.0, values call.arguments all.1)
    invoked call (Some type) all =
        stand_both P (arguments_diagnostics symbols scope type.1.parameters [] call.arguments) _ (arguments type.1.parameters [] call.arguments all.1)
        (missing call.name.at type.1.parameters call.arguments 0 type.1.parameters.values all.0)

    invoke : (call : RawInvoke) → Places P (invoke_places call) → Stand P (invoke_diagnostics symbols scope call)
    unfolding invoke_diagnostics
    invoke call all = invoked call (entry_in call.name.name symbols.types) all

    wanted_result : (at : Place) (found : Option (ℕ × TypeSymbol)) → P at → Stand P (result_wanted at found)
    wanted_result at None is = tt
    wanted_result at (Some type) is = unless P (is_some type.1.result) WrongType at is

    -- ---- effects

    assigned : (at : Place) (local : FoundLocal) → P at → Stand P (assigned_diagnostics at local)
    assigned at None is = (is, tt)
    assigned at (Some local) is = unless P (not local.1.is_parameter) WrongType at is

    counter_judges : Judges P counter_sort
    counter_judges at Counter is = tt
    counter_judges at (Register kind) is = (is, tt)
    counter_judges at Accumulator is = (is, tt)

    register_judges : Judges P register_sort
    register_judges at Counter is = (is, tt)
    register_judges at (Register kind) is = tt
    register_judges at Accumulator is = (is, tt)

    flow : (name : RawName) (value : RawExpr) → P name.at → Places P (expr_places value) → Stand P (flow_diagnostics symbols scope name value)
    flow name value is all =
        stand_both P (on_cell flow_sort name.at (cell_in symbols name)) _ (cell_placed P flow_sort (flow_judges P) name.at (cell_in symbols name) is) (typed_placed P symbols scope Int value all)

    returned : (result : Option ResultSymbol) (at : Place) (value : Option RawExpr) → P at → Places P (places_if_any expr_places value) → Stand P (return_diagnostics symbols scope result at value)
    returned None at None is all = tt
    returned (Some result) at None is all = (is, tt)
    returned None at (Some value) is all = (is, expr_placed P symbols scope value all)
    returned (Some result) at (Some value) is all = valued result.kind value all

  -- ---- statements

  module _ (result : Option ResultSymbol) where
    abbrev judged : Place → RawStmtKind → Judging
    judged = raw_stmt_gives Judging (stmt_diagnostics_step symbols result)

    abbrev row_judged : {m : _} → Row_of-RawStmt m → List (RawStmt × Judging)
    row_judged = block_gives Judging (stmt_diagnostics_step symbols result)

    abbrev placed : Place → RawStmtKind → List Place
    placed = raw_stmt_gives (List Place) stmt_places_step

    abbrev row_placed : {m : _} → Row_of-RawStmt m → List Place
    row_placed row = places_in_all given_places (block_gives (List Place) stmt_places_step row)

    mutual
      stmt_stands : (at : Place) (what : RawStmtKind) (scope : BodyScope) → Places P (placed at what) → Stand P (judged at what scope)
      stmt_stands at (Let name value) scope all =
          stand_both P (let_diagnostics at scope ++ local_diagnostics symbols scope name) _ (stand_both P (let_diagnostics at scope) _ (let_placed at scope all.0) (local_placed scope name all.1.0))
          (expr_placed P symbols scope value all.1.1)
      stmt_stands at (LetCall name call) scope all =
          stand_both P (let_diagnostics at scope ++ local_diagnostics symbols scope name ++ invoke_diagnostics symbols scope call) _
          (stand_both P (let_diagnostics at scope ++ local_diagnostics symbols scope name) _ (stand_both P (let_diagnostics at scope) _ (let_placed at scope all.0) (local_placed scope name all.1.0))
          (invoke scope call all.1.1))
          (wanted_result scope call.name.at (entry_in call.name.name symbols.types) all.1.1.0)
      stmt_stands at (Assign name value) scope all =
          stand_both P (assigned_diagnostics name.at (local_in scope name)) _ (assigned scope name.at (local_in scope name) all.1.0) (valued scope (local_kind (local_in scope name)) value all.1.1)
      stmt_stands at (Add name value) scope all =
          stand_both P (on_cell counter_sort name.at (cell_in symbols name)) _ (cell_placed P counter_sort (counter_judges scope) name.at (cell_in symbols name) all.1.0) (typed_placed P symbols scope Int value all.1.1)
      stmt_stands at (Put name value) scope all =
          stand_both P (on_cell register_sort name.at (cell_in symbols name)) _ (cell_placed P register_sort (register_judges scope) name.at (cell_in symbols name) all.1.0) (valued scope _ value all.1.1)
      stmt_stands at (AddVolume name value) scope all = flow scope name value all.1.0 all.1.1
      stmt_stands at (AddRate name value) scope all = flow scope name value all.1.0 all.1.1
      stmt_stands at (Delay by) scope all = typed_placed P symbols scope Int by all.1
      stmt_stands at (WaitUntil condition) scope all = wait_placed P symbols scope condition all.1
      stmt_stands at (Spawn child) scope all = invoke scope child all.1
      stmt_stands at (Call child) scope all = invoke scope child all.1
      stmt_stands at (If' test _ block _ other) scope all =
          let rest = behind P (expr_places test) _ all.1 in
          let between = scope_behind_block symbols (statements_in (row_judged block)) scope in
          stand_both P (typed_diagnostics symbols scope Truth test ++ judged_in_turn symbols (row_judged block) scope) _
          (stand_both P (typed_diagnostics symbols scope Truth test) _ (typed_placed P symbols scope Truth test (in_front P (expr_places test) _ all.1)) (row_stands block scope (in_front P (row_placed block) _ rest)))
          (row_stands other between (behind P (row_placed block) _ rest))
      stmt_stands at (While' test _ body) scope all =
          stand_both P (typed_diagnostics symbols scope Truth test) _ (typed_placed P symbols scope Truth test (in_front P (expr_places test) _ all.1)) (row_stands body scope (behind P (expr_places test) _ all.1))
      stmt_stands at (Return value) scope all = returned scope result at value all.0 all.1

      row_stands : {m : _} (row : Row_of-RawStmt m) (scope : BodyScope) → Places P (row_placed row) → Stand P (judged_in_turn symbols (row_judged row) scope)
      row_stands end_of-RawStmt scope all = tt
      row_stands (more_of-RawStmt at what rest) scope all =
          stand_both P (judged at what scope) _ (stmt_stands at what scope (in_front P (placed at what) _ all))
          (row_stands rest (scope_behind symbols (record { at = at; what = what }) scope) (behind P (placed at what) _ all))

    pub body_placed : (body : List RawStmt) (scope : BodyScope) → Places P (places_in_all stmt_places body) → Stand P (block_diagnostics symbols result body scope)
    unfolding stmt_places stmt_diagnostics
    body_placed [] scope all = tt
    body_placed (stmt ∷ rest) scope all =
        stand_both P (judged stmt.at stmt.what scope) _ (stmt_stands stmt.at stmt.what scope (in_front P (placed stmt.at stmt.what) _ all))
        (body_placed rest (scope_behind symbols stmt scope) (behind P (placed stmt.at stmt.what) _ all))
