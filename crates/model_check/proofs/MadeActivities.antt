-- An activity type is made of its parts, and what is wrong with it is noted part by part.
use Rattle.std.proofs.Common.{◌≡◌, ℕ, List, [], ◌∷◌, ◌++◌, Option, refl, ap, ◌∙◌}
use Rattle.aerie_base.specs.declared.expressions.Expr.{Expr}
use Rattle.aerie_base.specs.declared.models.Parameter.{Parameter}
use Rattle.aerie_base.specs.declared.values.Kind.{Kind}
use Rattle.aerie_base.specs.declared.values.Kind.TheVariants.{Truth}
use Rattle.model_reader.specs.declared.raw.expressions.RawExpr.{RawExpr}
use Rattle.model_reader.specs.declared.raw.items.RawParameter.{RawParameter}
use Rattle.model_reader.specs.declared.raw.names.RawName.{RawName}
use Rattle.model_reader.specs.declared.raw.statements.RawStmt.{RawStmt}
use Rattle.model_reader.specs.declared.raw.types.RawType.{RawType}
use Rattle.model_check.specs.declared.bodies.CheckedBody.{CheckedBody}
use Rattle.diagnostics.specs.declared.diagnostic.Diagnostic.{Diagnostic}
use Rattle.model_check.specs.declared.causes.Cause.{Cause}
use Rattle.model_check.specs.declared.scopes.BodyScope.{BodyScope}
use Rattle.model_check.specs.declared.symbols.ResultSymbol.{ResultSymbol}
use Rattle.model_check.specs.declared.symbols.Symbols.{Symbols}
use Rattle.model_check.specs.BodyScopes.{empty_scope}
use Rattle.model_check.specs.CheckedBodies.{checked_body}
use Rattle.model_check.specs.Diagnostics.{number_of_cause, noted, Makes}
use Rattle.model_check.specs.Expressions.{typed_diagnostics, expr_of}
use Rattle.model_check.specs.MadeStatements.{MakesBehind}
use Rattle.model_check.specs.ModelDiagnostics.{parameter_scope, parameters_diagnostics, result_type_diagnostics, requires_diagnostics, end_diagnostics, activity_diagnostics_in}
use Rattle.model_check.specs.ModelMeaning.{model_parameters, result_written, model_requires, activity_in}
use Rattle.model_check.specs.ModelSymbols.{result_symbol, bare_symbols}
use Rattle.model_check.specs.Statements.{block_diagnostics}
use Rattle.diagnostics.specs.NotedInTurn.{noted_in_turn}

-- truths are judged by the enumerations alone
wrong_by_enums : (symbols : Symbols) (scope : BodyScope) (truths : List RawExpr) →
    requires_diagnostics (bare_symbols symbols.enums) scope truths ≡ requires_diagnostics symbols scope truths
wrong_by_enums symbols scope [] = refl
wrong_by_enums symbols scope (truth ∷ rest) =
    ap (λ (ds : List (Diagnostic Cause)). typed_diagnostics (bare_symbols symbols.enums) scope Truth truth ++ ds) (wrong_by_enums symbols scope rest)

meant_by_enums : (symbols : Symbols) (scope : BodyScope) (truths : List RawExpr) →
    model_requires (bare_symbols symbols.enums) scope truths ≡ model_requires symbols scope truths
meant_by_enums symbols scope [] = refl
meant_by_enums symbols scope (truth ∷ rest) =
    ap (λ (es : List Expr). expr_of (bare_symbols symbols.enums) scope truth ∷ es) (meant_by_enums symbols scope rest)

module _ (symbols bare : Symbols) (bare_is : bare ≡ bare_symbols symbols.enums) (name : RawName) (written : List RawParameter) (returns : Option RawType)
    (truths : List RawExpr) (raw : List RawStmt) where
  pub made_activity : (first scope : BodyScope) → first ≡ empty_scope → (before one two three four after : Option (Diagnostic Cause)) →
      (parameters : List Parameter) →
      MakesBehind (model_parameters symbols written) (parameters_diagnostics symbols first written) (parameter_scope symbols first written) scope before one parameters →
      two ≡ noted one (result_type_diagnostics symbols returns) →
      (requires_ : List Expr) → Makes (model_requires bare scope truths) (requires_diagnostics bare scope truths) two three requires_ →
      (result : Option ResultSymbol) → result ≡ result_symbol symbols.enums returns →
      (made : CheckedBody) → Makes (checked_body symbols raw scope) (block_diagnostics symbols result raw scope) three four made →
      after ≡ noted four (end_diagnostics name.at returns raw) →
      (copied : List ℕ) → copied ≡ name.name → (kind : Option Kind) → kind ≡ result_written symbols returns →
      Makes (activity_in symbols (parameter_scope symbols empty_scope written) name written returns truths raw)
      (activity_diagnostics_in symbols (parameter_scope symbols empty_scope written) name written returns truths raw) before after
      (record { name = copied; parameters = parameters; result = kind; requires_ = requires_; slots = made.slots; body = made.statements })
  made_activity first scope first_is before one two three four after parameters p second requires_ q result result_is made b last copied copied_is kind kind_is =
      let there : BodyScope = parameter_scope symbols empty_scope written in
      let scope_is : scope ≡ there = p.1 ∙ ap (λ (s : BodyScope). parameter_scope symbols s written) first_is in
      let requires_is : requires_ ≡ model_requires symbols there truths =
      q.0 ∙ (ap (λ (s : Symbols). model_requires s scope truths) bare_is
      ∙ (meant_by_enums symbols scope truths ∙ ap (λ (s : BodyScope). model_requires symbols s truths) scope_is)) in
      let body_is : made ≡ checked_body symbols raw there = b.0 ∙ ap (checked_body symbols raw) scope_is in
      let d1 : List (Diagnostic Cause) = parameters_diagnostics symbols empty_scope written in
      let d2 : List (Diagnostic Cause) = result_type_diagnostics symbols returns in
      let d3 : List (Diagnostic Cause) = requires_diagnostics symbols there truths in
      let d4 : List (Diagnostic Cause) = block_diagnostics symbols (result_symbol symbols.enums returns) raw there in
      let d5 : List (Diagnostic Cause) = end_diagnostics name.at returns raw in
      let e1 : one ≡ noted before d1 = p.0.1 ∙ ap (λ (s : BodyScope). noted before (parameters_diagnostics symbols s written)) first_is in
      let e3 : three ≡ noted two d3 =
      q.1 ∙ (ap (λ (s : Symbols). noted two (requires_diagnostics s scope truths)) bare_is
      ∙ (ap (λ (ds : List (Diagnostic Cause)). noted two ds) (wrong_by_enums symbols scope truths)
      ∙ ap (λ (s : BodyScope). noted two (requires_diagnostics symbols s truths)) scope_is)) in
      let e4 : four ≡ noted three d4 = b.1 ∙ (λ j. noted three (block_diagnostics symbols (result_is j) raw (scope_is j))) in (
        (λ j. record { name = copied_is j; parameters = p.0.0 j; result = kind_is j; requires_ = requires_is j; slots = (body_is j).slots; body = (body_is j).statements }),
        noted_in_turn number_of_cause (d1 ++ d2 ++ d3 ++ d4) d5 before four after
            (noted_in_turn number_of_cause (d1 ++ d2 ++ d3) d4 before three four
            (noted_in_turn number_of_cause (d1 ++ d2) d3 before two three
            (noted_in_turn number_of_cause d1 d2 before one two e1 second) e3) e4) last,
      )
