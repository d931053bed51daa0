-- An activity type and a daemon of which nothing is refused are those of the model.
use Rattle.std.proofs.Common.{◌≡◌, ℕ, zero, suc, ◌+◌, ◌≤◌, ◌<◌, map, Bool, true, false, not, ◌||◌, List, [], ◌∷◌, ◌++◌, Option, Some, None, option_map, option_and_then, nat_lt, slice_get, length, if◌then◌else◌, refl, sym, ap, ◌∙◌, subst, arith, append_assoc, true≢false}
use Rattle.std.proofs.lemmas.Bool.{le-leb}
use Rattle.std.proofs.lemmas.Bool.Decides.{nat_tests}
use Rattle.std.proofs.lemmas.List.{length-append, length-map}
use Rattle.std.specs.List.{AllByRecursion, list_all, list_any, position_or_len}
use Rattle.aerie_base.specs.declared.models.Activity.{Activity}
use Rattle.aerie_base.specs.declared.models.Daemon.{Daemon}
use Rattle.aerie_base.specs.declared.models.EnumType.{EnumType}
use Rattle.aerie_base.specs.declared.places.Place.{Place}
use Rattle.aerie_base.specs.declared.statements.Stmt.{Stmt}
use Rattle.aerie_base.specs.declared.values.Kind.{Kind}
use Rattle.aerie_base.specs.declared.values.Kind.TheVariants.{Truth}
use Rattle.aerie_base.specs.declared.values.Value.{Value}
use Rattle.aerie_base.specs.models.Activities.{is_default, is_parameter, parameter_names, are_parameters, is_require, are_requires, ends_in_return, is_result, activity_setting, is_activity, daemon_setting, is_daemon}
use Rattle.aerie_base.specs.models.Bodies.{Setting, is_body}
use Rattle.aerie_base.specs.models.Cells.{NamedCells}
use Rattle.aerie_base.specs.models.Expressions.{typed, is_kind_of}
use Rattle.aerie_base.specs.models.Limits.{local_limit, parameter_limit, require_limit}
use Rattle.aerie_base.specs.models.Names.{same_name, is_name_among, are_distinct}
use Rattle.aerie_base.specs.models.NameLaws.{among_appended}
use Rattle.aerie_base.specs.models.Scopes.{Scope, known}
use Rattle.aerie_base.specs.models.Signatures.{Signature, parameter_kinds}
use Rattle.aerie_base.specs.models.Values.{is_kind}
use Rattle.model_reader.specs.Limits.{IsLimitedExpr, IsLimitedBody, IsLimitedDefault, AreLimitedParameters}
use Rattle.model_reader.specs.declared.raw.expressions.RawExpr.{RawExpr}
use Rattle.model_reader.specs.declared.raw.items.RawParameter.{RawParameter}
use Rattle.model_reader.specs.declared.raw.literals.RawLiteral.{RawLiteral}
use Rattle.model_reader.specs.declared.raw.names.RawName.{RawName}
use Rattle.model_reader.specs.declared.raw.statements.RawStmt.{RawStmt}
use Rattle.model_reader.specs.declared.raw.types.RawType.{RawType}
use Rattle.model_check.specs.declared.causes.Cause.TheVariants.{Duplicate}
use Rattle.model_check.specs.declared.scopes.BodyScope.{BodyScope}
use Rattle.model_check.specs.declared.symbols.EnumSymbol.{EnumSymbol}
use Rattle.model_check.specs.declared.symbols.ParameterSymbol.{ParameterSymbol}
use Rattle.model_check.specs.declared.symbols.ResultSymbol.{ResultSymbol}
use Rattle.model_check.specs.declared.symbols.Symbols.{Symbols}
use Rattle.model_check.specs.declared.tables.NameTable.{NameTable}
use Rattle.model_check.specs.BodyScopes.{empty_scope, with_new_local, clash, enum_place, cell_place, local_diagnostics}
use Rattle.diagnostics.specs.Diagnostics.{refused_unless}
use Rattle.model_check.specs.Expressions.{typed_diagnostics}
use Rattle.model_check.specs.ModelDiagnostics.{repeated_diagnostics, default_diagnostics, parameter_diagnostics, parameter_scope, parameters_diagnostics, result_type_diagnostics, requires_diagnostics, returns_at_end, end_diagnostics, activity_diagnostics_in}
use Rattle.model_check.specs.ModelMeaning.{names_of, kind_written, model_parameters, result_written, model_requires, activity_in}
use Rattle.model_check.specs.ModelSymbols.{type_kind, type_diagnostics, default_value, parameters_from, result_symbol, bare_symbols}
use Rattle.diagnostics.specs.ShortNumbers.{short}
use Rattle.model_check.specs.NameTables.{no_entries, numbered_value, entry_in}
use Rattle.model_check.specs.StatementScopes.{scope_behind_all}
use Rattle.model_check.specs.Statements.{block_diagnostics, block_of}
use Rattle.diagnostics.specs.NotedInTurn.{front_empty, back_empty, holds_if_empty}
use Rattle.model_check.proofs.Sound.Empty.{three, five}
use Rattle.model_check.proofs.Sound.Knows.{Knows, IsEnum}
use Rattle.model_check.proofs.Sound.Expressions.{wanted_expr}
use Rattle.model_check.proofs.Sound.Invokes.{AllPairs, IsDefaultOf, IsParameterOf}
use Rattle.model_check.proofs.Sound.Scopes.{all_at, entry_stands, SameResult, HasSignature, Suits, IsKnown, Follows, declared_follows}
use Rattle.model_check.proofs.Sound.Bodies.{ends_made, is_sound_body}
use Rattle.model_check.proofs.Sound.Names.{are_new}
use Rattle.model_check.proofs.Sound.Tables.{written_names, written_symbols, parameter_table}
use Rattle.model_check.proofs.Sound.Facts.{IsWritten, type_written, literal_written}

-- ---- names that are not found

passes : {A : Type 0} (p : A → Bool) (xs : List A) → list_any p xs ≡ true → position_or_len p xs < length xs
passes p [] e = cc
passes p (x ∷ xs) e = go (p x) refl (λ k. passes p xs k) e
  where
    go : (b : Bool) → p x ≡ b → (list_any p xs ≡ true → position_or_len p xs < length xs) → (b || list_any p xs) ≡ true → position_or_len p (x ∷ xs) < length (x ∷ xs)
    go true h more k = rw h (omega arith)
    go false h more k = let rest = more k in rw h (omega (arith, rest))

within_some : {A : Type 0} (xs : List A) (number : ℕ) → number < length xs → (x : A) × (slice_get xs number ≡ Some x)
within_some [] number lt = absurd (omega (arith, lt))
within_some (x ∷ xs) zero lt = (x, refl)
within_some (x ∷ xs) (suc number) lt = within_some xs number (omega (arith, lt))

-- a name that nothing stands for is not in the table
pub not_found : {A : Type 0} (table : NameTable A) (name : List ℕ) → length table.names ≡ length table.values → entry_in name table ≡ None → is_name_among name table.names ≡ false
not_found table name aligned none = go (is_name_among name table.names) refl
  where
    found : (at : ℕ) → at < length table.names → option_and_then (numbered_value table.values) (Some at) ≡ None → ⊥
    found at lt e = let some = within_some table.values at (omega (arith, lt, aligned)) in absurd (no_some (sym (ap (option_map (λ value. (at, value))) some.1) ∙ e))
      where
        no_some : {A : Type 0} {a : A} → Some a ≡ None → ⊥
        no_some h = cc

    named : (b : Bool) → nat_lt (position_or_len (same_name name) table.names) (length table.names) ≡ b → position_or_len (same_name name) table.names < length table.names
        → option_and_then (numbered_value table.values) (if b then Some (position_or_len (same_name name) table.names) else None) ≡ None → ⊥
    named true h lt e = found (position_or_len (same_name name) table.names) lt e
    named false h lt e = absurd (grind (arith, nat_tests))

    go : (b : Bool) → is_name_among name table.names ≡ b → b ≡ false
    go true h = absurd (named (nat_lt (position_or_len (same_name name) table.names) (length table.names)) refl (passes (same_name name) table.names h) none)
    go false h = refl

no_clash : {A : Type 0} (at : Place) (place : A → Place) (found : Option A) → clash at (option_map place found) ≡ [] → found ≡ None
no_clash at place None none = refl
no_clash at place (Some entry) none = cc

join_empty : {A : Type 0} (xs ys : List A) → xs ≡ [] → ys ≡ [] → xs ++ ys ≡ []
join_empty xs ys e f = ap (λ (zs : List _). zs ++ ys) e ∙ f

module _ (symbols : Symbols) (enums : List EnumType) (known_enums : (name : List ℕ) (entry : ℕ × EnumSymbol) → entry_in name symbols.enums ≡ Some entry → (nat_lt (short entry.0) (length enums) ≡ true) × IsEnum enums entry) where
  -- ---- parameters

  abbrev pub kinds_written : List RawParameter → List Kind
  kinds_written [] = []
  kinds_written (parameter ∷ rest) = kind_written symbols parameter.kind ∷ kinds_written rest

  pub kinds_are : (written : List RawParameter) → map (λ parameter. parameter.kind) (model_parameters symbols written) ≡ kinds_written written
  kinds_are [] = refl
  kinds_are (parameter ∷ rest) = ap (λ (kinds : List Kind). kind_written symbols parameter.kind ∷ kinds) (kinds_are rest)

  names_are : (written : List RawParameter) → map (λ parameter. parameter.name) (model_parameters symbols written) ≡ written_names symbols.enums written
  names_are [] = refl
  names_are (parameter ∷ rest) = ap (λ (names : List (List ℕ)). parameter.name.name ∷ names) (names_are rest)

  count_is : (written : List RawParameter) → length (model_parameters symbols written) ≡ length written
  count_is [] = refl
  count_is (parameter ∷ rest) = ap suc (count_is rest)

  -- what is known of one parameter
  its_type : (scope : BodyScope) (parameter : RawParameter) → parameter_diagnostics symbols scope parameter ≡ [] → IsWritten symbols enums known_enums parameter.kind
  its_type scope parameter none =
      type_written symbols enums known_enums parameter.kind (front_empty (type_diagnostics symbols.enums parameter.kind) _ (back_empty (local_diagnostics symbols scope parameter.name) _ (three (local_diagnostics symbols scope parameter.name) (type_diagnostics symbols.enums parameter.kind) _ none)))

  its_default : (written : RawType) (of : Kind) (default : Option RawLiteral) → type_kind symbols.enums written ≡ Some of → IsLimitedDefault default → default_diagnostics symbols written default ≡ []
      → IsDefaultOf enums of (default_value symbols.enums default)
  its_default written of None e limited none = tt
  its_default written of (Some literal) e limited none = literal_written symbols enums known_enums written of literal e limited none

  default_right : (of : Kind) (default : Option Value) → IsDefaultOf enums of default → is_default enums of default ≡ true
  default_right of None is = refl
  default_right of (Some value) is = is

  record AreParameters (written : List RawParameter) : Type 0 where
    right : list_all (is_parameter enums) (model_parameters symbols written) ≡ true
    pairs : AllPairs (IsParameterOf enums) (written_symbols symbols.enums written) (kinds_written written)

  parameters_right : (scope : BodyScope) (written : List RawParameter) → AreLimitedParameters written → parameters_diagnostics symbols scope written ≡ [] → AreParameters written
  parameters_right scope [] limited none = record { right = refl; pairs = tt }
  parameters_right scope (parameter ∷ rest) limited none =
      let here = front_empty (parameter_diagnostics symbols scope parameter) _ none in
      let it = its_type scope parameter here in
      let default = its_default parameter.kind it.of parameter.default it.kind_is limited.0 (back_empty (type_diagnostics symbols.enums parameter.kind) _ (back_empty (local_diagnostics symbols scope parameter.name) _ (three (local_diagnostics symbols scope parameter.name) (type_diagnostics symbols.enums parameter.kind) _ here))) in
      let more = parameters_right (with_new_local scope parameter.name.name (type_kind symbols.enums parameter.kind) true) rest limited.1 (back_empty (parameter_diagnostics symbols scope parameter) _ none) in
      let written_default = subst (λ (k : Kind). IsDefaultOf enums k (default_value symbols.enums parameter.default)) (sym it.written_is) default in
      record {
        right = rw (ap (is_kind enums) it.written_is ∙ it.in_model, default_right (kind_written symbols parameter.kind) (default_value symbols.enums parameter.default) written_default) more.right;
        pairs = ((it.kind_is ∙ ap Some (sym it.written_is), written_default), more.pairs);
      }

  -- their scope goes along with that of the model
  parameters_follow : (count : ℕ) (written : List RawParameter) (scope : BodyScope) (slots : Scope) → Follows count scope slots → scope.count + length written ≤ local_limit → parameters_diagnostics symbols scope written ≡ []
      → Follows count (parameter_scope symbols scope written) (slots ++ map Some (kinds_written written))
  parameters_follow count [] scope slots follows few none = subst (Follows count scope) (all_of slots) follows
    where
      all_of : {A : Type 0} (xs : List A) → xs ≡ xs ++ []
      all_of [] = refl
      all_of (x ∷ xs) = ap (λ (ys : List _). x ∷ ys) (all_of xs)
  parameters_follow count (parameter ∷ rest) scope slots follows few none =
      let it = its_type scope parameter (front_empty (parameter_diagnostics symbols scope parameter) _ none) in
      let of = kind_written symbols parameter.kind in
      let kind_is : type_kind symbols.enums parameter.kind ≡ Some of = it.kind_is ∙ ap Some (sym it.written_is) in
      let next = declared_follows count scope slots parameter.name.name of true follows (omega (arith, few)) (λ e. absurd (true≢false e)) in
      let long = length-append slots (Some of ∷ []) in
      let more = parameters_follow count rest (with_new_local scope parameter.name.name (Some of) true) (slots ++ Some of ∷ []) next (omega (arith, few, next.count, follows.count, long))
      (subst (λ (k : Option Kind). parameters_diagnostics symbols (with_new_local scope parameter.name.name k true) rest ≡ []) kind_is (back_empty (parameter_diagnostics symbols scope parameter) _ none)) in
      subst (λ (k : Option Kind). Follows count (parameter_scope symbols (with_new_local scope parameter.name.name k true) rest) (slots ++ Some of ∷ map Some (kinds_written rest))) (sym kind_is)
      (subst (Follows count (parameter_scope symbols (with_new_local scope parameter.name.name (Some of) true) rest)) (append_assoc slots (Some of ∷ []) (map Some (kinds_written rest))) more)

  -- their names differ
  abbrev raw_names : List RawParameter → List RawName
  raw_names [] = []
  raw_names (parameter ∷ rest) = parameter.name ∷ raw_names rest

  raw_names_are : (written : List RawParameter) → names_of (raw_names written) ≡ written_names symbols.enums written
  raw_names_are [] = refl
  raw_names_are (parameter ∷ rest) = ap (λ (names : List (List ℕ)). parameter.name.name ∷ names) (raw_names_are rest)

  none_repeated : (scope : BodyScope) (written : List RawParameter) → parameters_diagnostics symbols scope written ≡ [] → repeated_diagnostics scope.names (raw_names written) ≡ []
  none_repeated scope [] none = refl
  none_repeated scope (parameter ∷ rest) none =
      join_empty (refused_unless (not (is_name_among parameter.name.name scope.names)) Duplicate parameter.name.at) _
      (front_empty (refused_unless (not (is_name_among parameter.name.name scope.names)) Duplicate parameter.name.at) _
      (three (refused_unless (not (is_name_among parameter.name.name scope.names)) Duplicate parameter.name.at) (clash parameter.name.at (option_map enum_place (entry_in parameter.name.name symbols.enums))) _ (front_empty (local_diagnostics symbols scope parameter.name) _ (three (local_diagnostics symbols scope parameter.name) (type_diagnostics symbols.enums parameter.kind) _ (front_empty (parameter_diagnostics symbols scope parameter) _ none)))))
      (none_repeated (with_new_local scope parameter.name.name (type_kind symbols.enums parameter.kind) true) rest (back_empty (parameter_diagnostics symbols scope parameter) _ none))

  names_differ : (written : List RawParameter) → parameters_diagnostics symbols empty_scope written ≡ [] → are_distinct (written_names symbols.enums written) ≡ true
  names_differ written none = let new = are_new [] (raw_names written) refl (none_repeated empty_scope written none) in ap are_distinct (sym (raw_names_are written)) ∙ new.distinct

  -- and are no names of cells or enumerations
  abbrev taken : List (List ℕ)
  taken = symbols.enums.names ++ symbols.cells.names

  module _ (enums_aligned : length symbols.enums.names ≡ length symbols.enums.values) (cells_aligned : length symbols.cells.names ≡ length symbols.cells.values) where
    not_taken : (scope : BodyScope) (name : RawName) → local_diagnostics symbols scope name ≡ [] → not (is_name_among name.name taken) ≡ true
    not_taken scope name none =
        let clashes = back_empty (refused_unless (not (is_name_among name.name scope.names)) Duplicate name.at) _ (three (refused_unless (not (is_name_among name.name scope.names)) Duplicate name.at) (clash name.at (option_map enum_place (entry_in name.name symbols.enums))) _ none) in
        let no_enum = not_found symbols.enums name.name enums_aligned (no_clash name.at enum_place (entry_in name.name symbols.enums) (front_empty (clash name.at (option_map enum_place (entry_in name.name symbols.enums))) _ clashes)) in
        let no_cell = not_found symbols.cells name.name cells_aligned (no_clash name.at cell_place (entry_in name.name symbols.cells) (back_empty (clash name.at (option_map enum_place (entry_in name.name symbols.enums))) _ clashes)) in
        ap not (among_appended name.name symbols.enums.names symbols.cells.names ∙ (λ i. no_enum i || no_cell i))

    none_taken : (scope : BodyScope) (written : List RawParameter) → parameters_diagnostics symbols scope written ≡ [] → list_all (λ name. not (is_name_among name taken)) (written_names symbols.enums written) ≡ true
    none_taken scope [] none = refl
    none_taken scope (parameter ∷ rest) none =
        rw (not_taken scope parameter.name (front_empty (local_diagnostics symbols scope parameter.name) _ (three (local_diagnostics symbols scope parameter.name) (type_diagnostics symbols.enums parameter.kind) _ (front_empty (parameter_diagnostics symbols scope parameter) _ none))))
        (none_taken (with_new_local scope parameter.name.name (type_kind symbols.enums parameter.kind) true) rest (back_empty (parameter_diagnostics symbols scope parameter) _ none))

    are_parameters_if : (activity : Activity) → length activity.parameters ≤ parameter_limit → list_all (is_parameter enums) activity.parameters ≡ true → are_distinct (parameter_names activity) ≡ true
        → list_all (λ name. not (is_name_among name taken)) (parameter_names activity) ≡ true → are_parameters enums taken activity ≡ true
    are_parameters_if activity few right distinct free = rw (le-leb (length activity.parameters) parameter_limit few, right, distinct, free) refl

  -- ---- results

  result_right : (result : Option RawType) → result_type_diagnostics symbols result ≡ [] → SameResult (result_symbol symbols.enums result) (result_written symbols result)
  result_right None none = tt
  result_right (Some written) none = let it = type_written symbols enums known_enums written none in it.kind_is ∙ ap Some (sym it.written_is)

  is_result_if : (at : Place) (result : Option RawType) (raw : List RawStmt) (body : List Stmt) → result_type_diagnostics symbols result ≡ [] → end_diagnostics at result raw ≡ [] → ends_in_return body ≡ returns_at_end raw
      → is_result enums (result_written symbols result) body ≡ true
  is_result_if at None raw body none end same = refl
  is_result_if at (Some written) raw body none end same =
      let it = type_written symbols enums known_enums written none in
      rw (ap (is_kind enums) it.written_is ∙ it.in_model, same, holds_if_empty (returns_at_end raw) _ at end) refl

  -- the signature of an activity type
  pub has_signature : (parameters : List RawParameter) (result : Option RawType) (kinds : List Kind) → kinds ≡ kinds_written parameters → AreLimitedParameters parameters
      → parameters_diagnostics symbols empty_scope parameters ≡ [] → result_type_diagnostics symbols result ≡ []
      → HasSignature enums (record { parameters = parameters_from symbols.enums no_entries parameters; result = result_symbol symbols.enums result }) (record { parameters = kinds; result = result_written symbols result })
  has_signature parameters result kinds e limited none none_result =
      let are = parameters_right empty_scope parameters limited none in (
        subst (λ (values : List ParameterSymbol). AllPairs (IsParameterOf enums) values kinds) (sym (parameter_table symbols.enums parameters (names_differ parameters none)))
            (subst (AllPairs (IsParameterOf enums) (written_symbols symbols.enums parameters)) (sym e) are.pairs),
        result_right result none_result,
      )

  -- ---- what arguments must meet

  known_kinds : (kinds : List Kind) (slot : ℕ) → known (map Some kinds) slot ≡ slice_get kinds slot
  known_kinds [] slot = refl
  known_kinds (kind ∷ kinds) zero = refl
  known_kinds (kind ∷ kinds) (suc slot) = known_kinds kinds slot

  knows_parameters : (count : ℕ) (scope : BodyScope) (kinds : List Kind) → Follows count scope (map Some kinds) → Knows (bare_symbols symbols.enums) scope enums (slice_get kinds) (λ read. None)
  knows_parameters count scope kinds follows = record {
    local = λ name entry e. let is = all_at (IsKnown count (map Some kinds)) scope.known.values entry.0 entry.1 follows.locals (entry_stands name scope.known entry e) in
        (is.0.0, is.0.1, sym (known_kinds kinds entry.1.slot) ∙ is.0.2);
    cell = λ name entry e. absurd (nothing e);
    variant = λ name entry e. (known_enums name entry e).1;
  }
    where
      nothing : {A : Type 0} {a : A} → None ≡ Some a → ⊥
      nothing h = cc

  requires_right : (count : ℕ) (scope : BodyScope) (kinds : List Kind) (written : List RawExpr) → Follows count scope (map Some kinds) → AllByRecursion IsLimitedExpr written → requires_diagnostics symbols scope written ≡ []
      → list_all (λ its. is_kind_of (typed enums (slice_get kinds) (λ read. None) its) Truth) (model_requires symbols scope written) ≡ true
  requires_right count scope kinds [] follows limited none = refl
  requires_right count scope kinds (truth ∷ rest) follows limited none =
      let here = wanted_expr (bare_symbols symbols.enums) scope enums (slice_get kinds) (λ read. None) (knows_parameters count scope kinds follows) Truth truth limited.0
      (front_empty (typed_diagnostics (bare_symbols symbols.enums) scope Truth truth) _ none) in
      rw here (requires_right count scope kinds rest follows limited.1 (back_empty (typed_diagnostics (bare_symbols symbols.enums) scope Truth truth) _ none))

  requires_count : (scope : BodyScope) (written : List RawExpr) → length (model_requires symbols scope written) ≡ length written
  requires_count scope [] = refl
  requires_count scope (truth ∷ rest) = ap suc (requires_count scope rest)

  are_requires_if : (activity : Activity) → length activity.requires_ ≤ require_limit → list_all (is_require enums activity) activity.requires_ ≡ true → are_requires enums activity ≡ true
  are_requires_if activity few right = rw (le-leb (length activity.requires_) require_limit few, right) refl

  -- ---- activity types

  module _ (cells : NamedCells) (signatures : List Signature) (enums_aligned : length symbols.enums.names ≡ length symbols.enums.values) (cells_aligned : length symbols.cells.names ≡ length symbols.cells.values)
      (suits : (returns : Option ResultSymbol) (setting : Setting) → setting.enums ≡ enums → setting.cells ≡ cells → setting.signatures ≡ signatures → SameResult returns setting.result → Suits symbols returns setting) where
    activity_if : (activity : Activity) → are_parameters enums taken activity ≡ true → are_requires enums activity ≡ true → is_result enums activity.result activity.body ≡ true
        → is_body (activity_setting enums cells signatures activity) (parameter_kinds activity) activity.slots activity.body ≡ true → is_activity enums cells signatures taken activity ≡ true
    unfolding is_activity
    activity_if activity parameters requires_ result body = rw (parameters, requires_, result, body) refl

    none_follows : (count : ℕ) → Follows count empty_scope []
    none_follows count = record { count = refl; few = omega arith; aligned = refl; locals = tt }

    pub activity_good : (name : RawName) (parameters : List RawParameter) (result : Option RawType) (requires_ : List RawExpr) (body : List RawStmt)
        → length parameters ≤ parameter_limit → AreLimitedParameters parameters → length requires_ ≤ require_limit → AllByRecursion IsLimitedExpr requires_ → IsLimitedBody body
        → activity_diagnostics_in symbols (parameter_scope symbols empty_scope parameters) name parameters result requires_ body ≡ []
        → is_activity enums cells signatures taken (activity_in symbols (parameter_scope symbols empty_scope parameters) name parameters result requires_ body) ≡ true
    activity_good name parameters result requires_ body few limited few_requires limited_requires limited_body none =
        let scope = parameter_scope symbols empty_scope parameters in
        let activity = activity_in symbols scope name parameters result requires_ body in
        let apart = five (parameters_diagnostics symbols empty_scope parameters) (result_type_diagnostics symbols result) (requires_diagnostics symbols scope requires_) (block_diagnostics symbols (result_symbol symbols.enums result) body scope) _ none in
        let none_parameters = front_empty (parameters_diagnostics symbols empty_scope parameters) _ apart in
        let behind_parameters = back_empty (parameters_diagnostics symbols empty_scope parameters) _ apart in
        let none_result = front_empty (result_type_diagnostics symbols result) _ behind_parameters in
        let behind_result = back_empty (result_type_diagnostics symbols result) _ behind_parameters in
        let none_requires = front_empty (requires_diagnostics symbols scope requires_) _ behind_result in
        let behind_requires = back_empty (requires_diagnostics symbols scope requires_) _ behind_result in
        let none_body = front_empty (block_diagnostics symbols (result_symbol symbols.enums result) body scope) _ behind_requires in
        let none_end = back_empty (block_diagnostics symbols (result_symbol symbols.enums result) body scope) _ behind_requires in
        let are = parameters_right empty_scope parameters limited none_parameters in
        let count = count_is parameters in
        let kinds = kinds_are parameters in
        let setting = activity_setting enums cells signatures activity in
        let follows = subst (λ (its_kinds : List Kind). Follows setting.parameters scope (map Some its_kinds)) (sym kinds) (parameters_follow setting.parameters parameters empty_scope [] (none_follows setting.parameters) (omega (arith, few)) none_parameters) in
        let names = names_are parameters in
        let as_many : length (map Some (parameter_kinds activity)) ≡ setting.parameters = length-map (parameter_kinds activity) Some ∙ length-map activity.parameters (λ parameter. parameter.kind) in
        activity_if activity
        (are_parameters_if enums_aligned cells_aligned activity (omega (arith, count, few)) are.right (ap are_distinct names ∙ names_differ parameters none_parameters)
        (ap (list_all (λ its. not (is_name_among its taken))) names ∙ none_taken enums_aligned cells_aligned empty_scope parameters none_parameters))
        (are_requires_if activity (omega (arith, requires_count scope requires_, few_requires)) (requires_right setting.parameters scope (parameter_kinds activity) requires_ follows limited_requires none_requires))
        (is_result_if name.at result body (block_of symbols body scope) none_result none_end (ends_made symbols body scope))
        (is_sound_body symbols (result_symbol symbols.enums result) setting (suits (result_symbol symbols.enums result) setting refl refl refl (result_right result none_result)) body scope (parameter_kinds activity)
        follows (omega (arith, as_many)) limited_body none_body)

    daemon_if : (daemon : Daemon) → is_body (daemon_setting enums cells signatures) [] daemon.slots daemon.body ≡ true → is_daemon enums cells signatures daemon ≡ true
    unfolding is_daemon
    daemon_if daemon body = body

    pub daemon_good : (body : List RawStmt) → IsLimitedBody body → block_diagnostics symbols None body empty_scope ≡ []
        → is_daemon enums cells signatures (record { slots = (scope_behind_all symbols body empty_scope).count; body = block_of symbols body empty_scope }) ≡ true
    daemon_good body limited none =
        daemon_if _ (is_sound_body symbols None (daemon_setting enums cells signatures) (suits None (daemon_setting enums cells signatures) refl refl refl tt) body empty_scope [] (none_follows 0) (omega arith) limited none)
