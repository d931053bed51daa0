-- A body that is not refused is one of the model: with as many statements and as deep blocks as it is written with.
use Rattle.std.proofs.Common.{◌≡◌, ℕ, ◌≤◌, map, Bool, true, false, ◌&&◌, List, [], ◌∷◌, Option, Some, nat_eq, nat_le, length, refl, sym, ap, ◌∙◌, subst, arith}
use Rattle.std.proofs.lemmas.Bool.{le-leb}
use Rattle.std.proofs.lemmas.Bool.Decides.{nat_tests}
use Rattle.aerie_base.specs.declared.places.Place.{Place}
use Rattle.aerie_base.specs.declared.statements.Stmt.{Stmt, out-Stmt}
use Rattle.aerie_base.specs.declared.statements.Stmt.TheBlock.{hidden-the_row-Stmt-0, shape-the_row-Stmt-0, shown-the_row-Stmt-0}
use denote.Hole.Carrier.{hidden, shown, out}
use Rattle.aerie_base.specs.declared.values.Kind.{Kind}
use Rattle.aerie_base.specs.models.Activities.{is_return, ends_in_return}
use Rattle.aerie_base.specs.models.Bodies.{Setting, has_slots, block_checked, is_body}
use Rattle.aerie_base.specs.models.BodyForms.{depth_If, depth_While}
use Rattle.aerie_base.specs.models.Depth.{stmt_depth, body_depth}
use Rattle.aerie_base.specs.models.Limits.{depth_limit, local_limit, statement_limit}
use Rattle.aerie_base.specs.models.Scopes.{Scope}
use Rattle.aerie_base.specs.statements.PlaceForms.{count_If, count_While}
use Rattle.aerie_base.specs.statements.Places.{count, block_count}
use Rattle.model_reader.specs.Limits.{raw_count, row_count, raw_nesting, row_nesting, stmts_count, stmts_nesting, IsLimitedBody}
use Rattle.model_reader.specs.declared.raw.statements.RawStmt.{RawStmt}
use Rattle.model_reader.specs.declared.raw.statements.RawStmtKind.{RawStmtKind, Let, LetCall, Assign, Add, Put, AddVolume, AddRate, Delay, WaitUntil, Spawn, Call, If', While', Return, Row_of-RawStmt, end_of-RawStmt, more_of-RawStmt}
use Rattle.model_check.specs.declared.scopes.BodyScope.{BodyScope}
use Rattle.model_check.specs.declared.symbols.ResultSymbol.{ResultSymbol}
use Rattle.model_check.specs.declared.symbols.Symbols.{Symbols}
use Rattle.model_check.specs.ModelDiagnostics.{is_return_kind, returns_at_end}
use Rattle.model_check.specs.RawStatements.{raw_stmt_gives, block_gives}
use Rattle.model_check.specs.Expressions.{expr_of}
use Rattle.model_check.specs.StatementScopes.{scope_behind, scope_behind_all, scope_behind_block}
use Rattle.model_check.specs.Statements.{block_diagnostics, RawMaking, made_in_turn, statements_in, stmt_step, stmt_of, block_of}
use Rattle.model_check.proofs.Sound.Scopes.{Suits, Follows}
use Rattle.model_check.proofs.Sound.Statements.{sound_body}

module _ (symbols : Symbols) where
  abbrev its : Place → RawStmtKind → RawMaking
  its = raw_stmt_gives RawMaking (stmt_step symbols)

  abbrev row_its : {m : _} → Row_of-RawStmt m → BodyScope → List Stmt
  row_its row = made_in_turn symbols (block_gives RawMaking (stmt_step symbols) row)

  -- ---- how many statements

  mutual
    unfolding count

    count_made : (at : Place) (what : RawStmtKind) (scope : BodyScope) → count (its at what scope) ≡ raw_count what
    count_made at (Let name value) scope = refl
    count_made at (LetCall name call) scope = refl
    count_made at (Assign name value) scope = refl
    count_made at (Add name value) scope = refl
    count_made at (Put name value) scope = refl
    count_made at (AddVolume name value) scope = refl
    count_made at (AddRate name value) scope = refl
    count_made at (Delay by) scope = refl
    count_made at (WaitUntil condition) scope = refl
    count_made at (Spawn child) scope = refl
    count_made at (Call child) scope = refl
    count_made at (If' test _ block _ other) scope =
        let one = count_row block scope in
        let two = count_row other (scope_behind_block symbols (statements_in (block_gives RawMaking (stmt_step symbols) block)) scope) in
        let both = count_If (expr_of symbols scope test) (row_its block scope) (row_its other (scope_behind_block symbols (statements_in (block_gives RawMaking (stmt_step symbols) block)) scope)) in
        omega (arith, both, one, two)
    count_made at (While' test _ body) scope =
        let one = count_row body scope in
        let both = count_While (expr_of symbols scope test) (row_its body scope) in
        omega (arith, both, one)
    count_made at (Return value) scope = refl

    count_row : {m : _} (row : Row_of-RawStmt m) (scope : BodyScope) → block_count (row_its row scope) ≡ row_count row
    count_row end_of-RawStmt scope = refl
    count_row (more_of-RawStmt at what rest) scope =
        let one = count_made at what scope in
        let more = count_row rest (scope_behind symbols (record { at = at; what = what }) scope) in
        omega (arith, one, more)

  count_body : (body : List RawStmt) (scope : BodyScope) → block_count (block_of symbols body scope) ≡ stmts_count body
  unfolding stmt_of
  count_body [] scope = refl
  count_body (statement ∷ rest) scope =
      let one = count_made statement.at statement.what scope in
      let more = count_body rest (scope_behind symbols statement scope) in
      omega (arith, one, more)

  -- ---- how deep blocks

  mutual
    unfolding stmt_depth

    nesting_made : (at : Place) (what : RawStmtKind) (scope : BodyScope) → stmt_depth (its at what scope) ≡ raw_nesting what
    nesting_made at (Let name value) scope = refl
    nesting_made at (LetCall name call) scope = refl
    nesting_made at (Assign name value) scope = refl
    nesting_made at (Add name value) scope = refl
    nesting_made at (Put name value) scope = refl
    nesting_made at (AddVolume name value) scope = refl
    nesting_made at (AddRate name value) scope = refl
    nesting_made at (Delay by) scope = refl
    nesting_made at (WaitUntil condition) scope = refl
    nesting_made at (Spawn child) scope = refl
    nesting_made at (Call child) scope = refl
    nesting_made at (If' test _ block _ other) scope =
        let one = nesting_row block scope in
        let two = nesting_row other (scope_behind_block symbols (statements_in (block_gives RawMaking (stmt_step symbols) block)) scope) in
        let both = depth_If (expr_of symbols scope test) (row_its block scope) (row_its other (scope_behind_block symbols (statements_in (block_gives RawMaking (stmt_step symbols) block)) scope)) in
        omega (arith, both, one, two)
    nesting_made at (While' test _ body) scope =
        let one = nesting_row body scope in
        let both = depth_While (expr_of symbols scope test) (row_its body scope) in
        omega (arith, both, one)
    nesting_made at (Return value) scope = refl

    nesting_row : {m : _} (row : Row_of-RawStmt m) (scope : BodyScope) → body_depth (row_its row scope) ≡ row_nesting row
    nesting_row end_of-RawStmt scope = refl
    nesting_row (more_of-RawStmt at what rest) scope =
        let one = nesting_made at what scope in
        let more = nesting_row rest (scope_behind symbols (record { at = at; what = what }) scope) in
        omega (arith, one, more)

  nesting_body : (body : List RawStmt) (scope : BodyScope) → body_depth (block_of symbols body scope) ≡ stmts_nesting body
  unfolding stmt_of
  nesting_body [] scope = refl
  nesting_body (statement ∷ rest) scope =
      let one = nesting_made statement.at statement.what scope in
      let more = nesting_body rest (scope_behind symbols statement scope) in
      omega (arith, one, more)

  -- ---- returns

  return_made : (at : Place) (what : RawStmtKind) (scope : BodyScope) → is_return (its at what scope) ≡ is_return_kind what
  unfolding is_return out-Stmt out shown hidden shown-the_row-Stmt-0 hidden-the_row-Stmt-0 shape-the_row-Stmt-0
  return_made at (Let name value) scope = refl
  return_made at (LetCall name call) scope = refl
  return_made at (Assign name value) scope = refl
  return_made at (Add name value) scope = refl
  return_made at (Put name value) scope = refl
  return_made at (AddVolume name value) scope = refl
  return_made at (AddRate name value) scope = refl
  return_made at (Delay by) scope = refl
  return_made at (WaitUntil condition) scope = refl
  return_made at (Spawn child) scope = refl
  return_made at (Call child) scope = refl
  return_made at (If' test _ block _ other) scope = refl
  return_made at (While' test _ body) scope = refl
  return_made at (Return value) scope = refl

  pub ends_made : (body : List RawStmt) (scope : BodyScope) → ends_in_return (block_of symbols body scope) ≡ returns_at_end body
  unfolding stmt_of
  ends_made [] scope = refl
  ends_made (statement ∷ []) scope = return_made statement.at statement.what scope
  ends_made (statement ∷ next ∷ rest) scope = ends_made (next ∷ rest) (scope_behind symbols statement scope)

-- ---- bodies

body_if : (setting : Setting) (kinds : List Kind) (slots : ℕ) (body : List Stmt) → has_slots slots (block_checked setting body (map Some kinds)) ≡ true → block_count body ≤ statement_limit → body_depth body ≤ depth_limit
    → is_body setting kinds slots body ≡ true
unfolding is_body
body_if setting kinds slots body checked few shallow = rw (checked, le-leb (block_count body) statement_limit few, le-leb (body_depth body) depth_limit shallow) refl

slots_if : (slots : ℕ) (scope : Scope) (answer : Option Scope) → answer ≡ Some scope → slots ≡ length scope → slots ≤ local_limit → has_slots slots answer ≡ true
slots_if slots scope answer e count few = ap (has_slots slots) e ∙ go (nat_eq slots (length scope)) (nat_le slots local_limit) refl refl
  where
    go : (a b : Bool) → nat_eq slots (length scope) ≡ a → nat_le slots local_limit ≡ b → (a && b) ≡ true
    go true true h i = refl
    go false b h i = absurd (grind (arith, nat_tests))
    go true false h i = absurd (grind (arith, nat_tests))

-- a body that is not refused, behind its parameters
pub is_sound_body : (symbols : Symbols) (returns : Option ResultSymbol) (setting : Setting) → Suits symbols returns setting → (body : List RawStmt) (scope : BodyScope) (kinds : List Kind)
    → Follows setting.parameters scope (map Some kinds) → setting.parameters ≤ length (map Some kinds) → IsLimitedBody body → block_diagnostics symbols returns body scope ≡ []
    → is_body setting kinds (scope_behind_all symbols body scope).count (block_of symbols body scope) ≡ true
is_sound_body symbols returns setting suits body scope kinds follows within limited none =
    let passes = sound_body symbols returns setting suits body scope (map Some kinds) follows within limited.2 none in
    let behind = passes.follows in
    body_if setting kinds (scope_behind_all symbols body scope).count (block_of symbols body scope)
    (slots_if (scope_behind_all symbols body scope).count passes.behind_it _ passes.is behind.count behind.few)
    (subst (λ (n : ℕ). n ≤ statement_limit) (sym (count_body symbols body scope)) limited.0) (subst (λ (n : ℕ). n ≤ depth_limit) (sym (nesting_body symbols body scope)) limited.1)
