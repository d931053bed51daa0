-- What a statement at each form means, what is wrong with it, and the scope behind it, by its parts.
use Rattle.std.proofs.Common.{◌≡◌, ℕ, List, [], ◌∷◌, ◌++◌, length, drop, map, Option, Result, IfOk, refl, sym, ap, subst, ◌∙◌}
use Rattle.std.proofs.lemmas.List.{append-nil}
use Rattle.aerie_base.specs.declared.expressions.Expr.{Expr}
use Rattle.aerie_base.specs.declared.statements.Stmt.{Stmt}
use Rattle.aerie_base.specs.declared.statements.Stmt as stmt
use Rattle.aerie_base.specs.declared.values.Kind.TheVariants.{Truth}
use Rattle.model_reader.specs.declared.raw.expressions.RawExpr.{RawExpr}
use Rattle.model_reader.specs.declared.raw.statements.RawStmt.{RawStmt}
use Rattle.model_reader.specs.declared.raw.statements.RawStmtKind.{RawStmtKind, If, While}
use Rattle.diagnostics.specs.declared.diagnostic.Diagnostic.{Diagnostic}
use Rattle.model_check.specs.declared.causes.Cause.{Cause}
use Rattle.model_check.specs.declared.scopes.BodyScope.{BodyScope}
use Rattle.model_check.specs.declared.symbols.ResultSymbol.{ResultSymbol}
use Rattle.model_check.specs.declared.symbols.Symbols.{Symbols}
use Rattle.model_check.specs.Diagnostics.{number_of_cause, noted, Makes}
use Rattle.model_check.specs.Expressions.{typed_diagnostics, expr_of}
use Rattle.model_check.specs.MadeStatements.{IsStatementAt, IsStatement, IsBlock}
use Rattle.model_check.specs.RawStatements.{raw_stmt_gives}
use Rattle.model_check.specs.StatementScopes.{Scoping, scope_step, scope_behind, scope_behind_all, scope_behind_block, scoped_in_turn, scoped_block}
use Rattle.model_check.specs.BodyScopes.{block_left}
use Rattle.model_check.specs.NameTables.{first_entries}
use Rattle.model_check.specs.Statements.{Judging, stmt_diagnostics_step, stmt_diagnostics, block_diagnostics, judged_in_turn, statements_in, RawMaking, stmt_step, stmt_of, block_of, made_in_turn}
use Rattle.diagnostics.specs.NotedInTurn.{noted_in_turn}
use Rattle.model_check.proofs.RawStatementForms.{given_stmt, gives_If, gives_While}

module _ (symbols : Symbols) (result : Option ResultSymbol) where
  -- a statement is what its form says
  pub as_form : {E : Type 0} → (answer : Result Stmt E) (raw : RawStmt) (what : RawStmtKind) → raw.what ≡ what →
      (scope after : BodyScope) (before found : Option (Diagnostic Cause)) →
      IfOk answer (IsStatementAt symbols result raw.at what scope after before found) → IfOk answer (IsStatement symbols result raw scope after before found)
  unfolding stmt_of stmt_diagnostics scope_behind
  as_form answer raw what e scope after before found h =
      subst (λ (w : RawStmtKind). IfOk answer (IsStatementAt symbols result raw.at w scope after before found)) (sym e) h

  -- ---- blocks as they stand in a statement

  statements_are : {A : Type 0} → (gives : RawStmt → A) (block : List RawStmt) → statements_in (map (λ s. (s, gives s)) block) ≡ block
  statements_are gives [] = refl
  statements_are gives (s ∷ rest) = ap (λ (xs : List RawStmt). s ∷ xs) (statements_are gives rest)

  made_iterations : (block : List RawStmt) (scope : BodyScope) → made_in_turn symbols (map (given_stmt RawMaking (stmt_step symbols)) block) scope ≡ block_of symbols block scope
  unfolding stmt_of
  made_iterations [] scope = refl
  made_iterations (s ∷ rest) scope = ap (λ (xs : List Stmt). stmt_of symbols s scope ∷ xs) (made_iterations rest (scope_behind symbols s scope))

  judged_iterations : (block : List RawStmt) (scope : BodyScope) → judged_in_turn symbols (map (given_stmt Judging (stmt_diagnostics_step symbols result)) block) scope ≡ block_diagnostics symbols result block scope
  unfolding stmt_diagnostics
  judged_iterations [] scope = refl
  judged_iterations (s ∷ rest) scope = ap (λ (ds : List (Diagnostic Cause)). stmt_diagnostics symbols result s scope ++ ds) (judged_iterations rest (scope_behind symbols s scope))

  scoped_iterations : (block : List RawStmt) (scope : BodyScope) → scoped_in_turn (map (given_stmt Scoping (scope_step symbols)) block) scope ≡ scope_behind_all symbols block scope
  unfolding scope_behind
  scoped_iterations [] scope = refl
  scoped_iterations (s ∷ rest) scope = scoped_iterations rest (scope_behind symbols s scope)

  scoped_braces : (block : List RawStmt) (scope : BodyScope) → scoped_block (map (given_stmt Scoping (scope_step symbols)) block) scope ≡ scope_behind_block symbols block scope
  scoped_braces block scope = ap (block_left scope) (scoped_iterations block scope)

  -- ---- `if`

  meant_if : (raw : RawStmt) (test : RawExpr) (block other : List RawStmt) → raw.what ≡ If test block other → (scope : BodyScope) →
      stmt_of symbols raw scope ≡ stmt.If (expr_of symbols scope test) (block_of symbols block scope) (block_of symbols other (scope_behind_block symbols block scope))
  unfolding stmt_of
  meant_if raw test block other e scope =
      ap (λ (what : RawStmtKind). raw_stmt_gives RawMaking (stmt_step symbols) raw.at what scope) e
      ∙ ((λ i. gives_If RawMaking (stmt_step symbols) raw.at test block other i scope)
      ∙ ((λ i. stmt.If (expr_of symbols scope test) (made_iterations block scope i)
      (made_in_turn symbols (map (given_stmt RawMaking (stmt_step symbols)) other) (scope_behind_block symbols (statements_are (λ s. raw_stmt_gives RawMaking (stmt_step symbols) s.at s.what) block i) scope)))
      ∙ ap (λ (xs : List Stmt). stmt.If (expr_of symbols scope test) (block_of symbols block scope) xs) (made_iterations other (scope_behind_block symbols block scope))))

  wrong_if : (raw : RawStmt) (test : RawExpr) (block other : List RawStmt) → raw.what ≡ If test block other → (scope : BodyScope) →
      stmt_diagnostics symbols result raw scope
      ≡ typed_diagnostics symbols scope Truth test ++ block_diagnostics symbols result block scope ++ block_diagnostics symbols result other (scope_behind_block symbols block scope)
  unfolding stmt_diagnostics
  wrong_if raw test block other e scope =
      ap (λ (what : RawStmtKind). raw_stmt_gives Judging (stmt_diagnostics_step symbols result) raw.at what scope) e
      ∙ ((λ i. gives_If Judging (stmt_diagnostics_step symbols result) raw.at test block other i scope)
      ∙ ((λ i. typed_diagnostics symbols scope Truth test ++ judged_iterations block scope i
      ++ judged_in_turn symbols (map (given_stmt Judging (stmt_diagnostics_step symbols result)) other) (scope_behind_block symbols (statements_are (λ s. raw_stmt_gives Judging (stmt_diagnostics_step symbols result) s.at s.what) block i) scope))
      ∙ ap (λ (ds : List (Diagnostic Cause)). typed_diagnostics symbols scope Truth test ++ block_diagnostics symbols result block scope ++ ds) (judged_iterations other (scope_behind_block symbols block scope))))

  scoped_if : (raw : RawStmt) (test : RawExpr) (block other : List RawStmt) → raw.what ≡ If test block other → (scope : BodyScope) →
      scope_behind symbols raw scope ≡ scope_behind_block symbols other (scope_behind_block symbols block scope)
  unfolding scope_behind
  scoped_if raw test block other e scope =
      ap (λ (what : RawStmtKind). raw_stmt_gives Scoping (scope_step symbols) raw.at what scope) e
      ∙ ((λ i. gives_If Scoping (scope_step symbols) raw.at test block other i scope)
      ∙ (scoped_braces other (scoped_block (map (given_stmt Scoping (scope_step symbols)) block) scope)
      ∙ ap (scope_behind_block symbols other) (scoped_braces block scope)))

  pub made_if : (raw : RawStmt) (test : RawExpr) (block other : List RawStmt) → raw.what ≡ If test block other →
      (scope inner after : BodyScope) (before one two found : Option (Diagnostic Cause)) (made : Expr) (made_yes made_no : List Stmt) →
      Makes (expr_of symbols scope test) (typed_diagnostics symbols scope Truth test) before one made →
      IsBlock symbols result block scope inner one two made_yes → IsBlock symbols result other inner after two found made_no →
      IsStatement symbols result raw scope after before found (stmt.If made made_yes made_no)
  made_if raw test block other e scope inner after before one two found made made_yes made_no first second third =
      let third_there : IsBlock symbols result other (scope_behind_block symbols block scope) after two found made_no =
      subst (λ (s : BodyScope). IsBlock symbols result other s after two found made_no) second.1 third in (
        (
          (λ i. stmt.If (first.0 i) (second.0.0 i) (third_there.0.0 i)) ∙ sym (meant_if raw test block other e scope),
          noted_in_turn number_of_cause (typed_diagnostics symbols scope Truth test ++ block_diagnostics symbols result block scope) (block_diagnostics symbols result other (scope_behind_block symbols block scope)) before two found
              (noted_in_turn number_of_cause (typed_diagnostics symbols scope Truth test) (block_diagnostics symbols result block scope) before one two first.1 second.0.1) third_there.0.1
              ∙ ap (λ (ds : List (Diagnostic Cause)). noted before ds) (sym (wrong_if raw test block other e scope)),
        ),
        third_there.1 ∙ sym (scoped_if raw test block other e scope),
      )

  -- ---- `while`

  pub made_while : (raw : RawStmt) (test : RawExpr) (body : List RawStmt) → raw.what ≡ While test body →
      (scope after : BodyScope) (before one found : Option (Diagnostic Cause)) (made : Expr) (made_body : List Stmt) →
      Makes (expr_of symbols scope test) (typed_diagnostics symbols scope Truth test) before one made →
      IsBlock symbols result body scope after one found made_body →
      IsStatement symbols result raw scope after before found (stmt.While made made_body)
  unfolding stmt_of stmt_diagnostics scope_behind
  made_while raw test body e scope after before one found made made_body first second = (
    (
      (λ i. stmt.While (first.0 i) (second.0.0 i))
          ∙ sym (ap (λ (what : RawStmtKind). raw_stmt_gives RawMaking (stmt_step symbols) raw.at what scope) e
          ∙ ((λ i. gives_While RawMaking (stmt_step symbols) raw.at test body i scope) ∙ ap (λ (xs : List Stmt). stmt.While (expr_of symbols scope test) xs) (made_iterations body scope))),
      noted_in_turn number_of_cause (typed_diagnostics symbols scope Truth test) (block_diagnostics symbols result body scope) before one found first.1 second.0.1
          ∙ ap (λ (ds : List (Diagnostic Cause)). noted before ds)
          (sym (ap (λ (what : RawStmtKind). raw_stmt_gives Judging (stmt_diagnostics_step symbols result) raw.at what scope) e
          ∙ ((λ i. gives_While Judging (stmt_diagnostics_step symbols result) raw.at test body i scope) ∙ ap (λ (ds : List (Diagnostic Cause)). typed_diagnostics symbols scope Truth test ++ ds) (judged_iterations body scope)))),
    ),
    second.1
        ∙ sym (ap (λ (what : RawStmtKind). raw_stmt_gives Scoping (scope_step symbols) raw.at what scope) e
        ∙ ((λ i. gives_While Scoping (scope_step symbols) raw.at test body i scope) ∙ scoped_braces body scope)),
  )

  -- ---- a block whose statements were all made

  pub made_block : (block : List RawStmt) (i : ℕ) → drop i block ≡ [] → (scope last after : BodyScope) (known : ℕ) → known ≡ length scope.known.names →
      after ≡ record { names = last.names; known = first_entries known last.known; count = last.count } →
      (before found : Option (Diagnostic Cause)) (made : List Stmt) →
      scope_behind_all symbols (drop i block) last ≡ scope_behind_all symbols block scope →
      made ++ block_of symbols (drop i block) last ≡ block_of symbols block scope →
      noted found (block_diagnostics symbols result (drop i block) last) ≡ noted before (block_diagnostics symbols result block scope) →
      IsBlock symbols result block scope after before found made
  made_block block i none scope last after known is left before found made behind meant wrong = (
    (
      sym (append-nil made) ∙ (ap (λ (xs : List RawStmt). made ++ block_of symbols xs last) (sym none) ∙ meant),
      ap (λ (xs : List RawStmt). noted found (block_diagnostics symbols result xs last)) (sym none) ∙ wrong,
    ),
    left
        ∙ ((λ j. record { names = last.names; known = first_entries (is j) last.known; count = last.count })
        ∙ ap (block_left scope) (ap (λ (xs : List RawStmt). scope_behind_all symbols xs last) (sym none) ∙ behind)),
  )
