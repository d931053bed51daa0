-- Each refusal of a model stands at a place of it.
use Rattle.std.proofs.Common.{◌≡◌, ℕ, Bool, true, false, not, List, [], ◌∷◌, ◌++◌, Option, Some, None, if◌then◌else◌, refl, sym, ◌∙◌, append_assoc}
use Rattle.std.specs.List.{AllByRecursion}
use Rattle.aerie_base.specs.Ranges.{is_rate}
use Rattle.aerie_base.specs.declared.places.Place.{Place}
use Rattle.aerie_base.specs.declared.values.Kind.TheVariants.{Truth}
use Rattle.aerie_base.specs.models.Names.{is_name_among}
use Rattle.model_reader.specs.declared.raw.expressions.RawExpr.{RawExpr}
use Rattle.model_reader.specs.declared.raw.items.RawItem.{RawItem}
use Rattle.model_reader.specs.declared.raw.items.RawItem.TheVariants as item
use Rattle.model_reader.specs.declared.raw.items.RawParameter.{RawParameter}
use Rattle.model_reader.specs.declared.raw.literals.RawLiteral.{RawLiteral}
use Rattle.model_reader.specs.declared.raw.literals.RawLiteralKind.{RawLiteralKind}
use Rattle.model_reader.specs.declared.raw.literals.RawLiteralKind.TheVariants as literal
use Rattle.model_reader.specs.declared.raw.models.RawModel.{RawModel}
use Rattle.model_reader.specs.declared.raw.names.RawName.{RawName}
use Rattle.model_reader.specs.declared.raw.reads.RawPart.{RawPart}
use Rattle.model_reader.specs.declared.raw.reads.RawPart.TheVariants.{Whole, Volume, Rate, Conflicted}
use Rattle.model_reader.specs.declared.raw.statements.RawStmt.{RawStmt}
use Rattle.model_reader.specs.declared.raw.types.RawType.{RawType}
use Rattle.model_check.specs.declared.causes.Cause.TheVariants.{Duplicate, WrongType, OutOfRange}
use Rattle.model_check.specs.declared.leaves.FormUse.TheVariants.{Resource}
use Rattle.model_check.specs.declared.scopes.BodyScope.{BodyScope}
use Rattle.model_check.specs.declared.symbols.CellSymbol.{CellSymbol}
use Rattle.model_check.specs.declared.symbols.Symbols.{Symbols}
use Rattle.model_check.specs.declared.tables.NameTable.{NameTable}
use Rattle.model_check.specs.BodyScopes.{empty_scope, with_new_local, local_diagnostics}
use Rattle.model_check.specs.CellReads.{FoundCell, read_diagnostics}
use Rattle.diagnostics.specs.Diagnostics.{refused_unless}
use Rattle.model_check.specs.Expressions.{expr_diagnostics, typed_diagnostics}
use Rattle.model_check.specs.Literals.{literal_kind, literal_diagnostics}
use Rattle.model_check.specs.ModelDiagnostics.{repeated_diagnostics, shared_name, resource_name, names_in, typed_literal_diagnostics, rate_diagnostics, shown_diagnostics, default_diagnostics, parameter_diagnostics, parameter_scope, parameters_diagnostics, result_type_diagnostics, requires_diagnostics, returns_at_end, end_diagnostics, item_diagnostics, items_diagnostics, model_diagnostics}
use Rattle.model_check.specs.ModelSymbols.{Enums, type_kind, type_diagnostics, with_enum_symbol, enum_symbols_from, with_cell_symbol, cell_symbols_from, result_symbol, symbols_of, bare_symbols}
use Rattle.diagnostics.specs.NameLists.{with_name}
use Rattle.model_check.specs.NameTables.{no_entries, with_entry, entry_in}
use Rattle.model_check.specs.RawPlaces.{places_in_all, places_if_any, name_places, type_places, literal_places, expr_places, parameter_places, item_places, model_places, IsPlaceOf}
use Rattle.model_check.proofs.Placed.Parts.{in_front, behind, in_both, Places, Stand, stand_both, unless, mismatched, literal_placed, type_placed, read_placed}
use Rattle.model_check.proofs.Placed.Expressions.{expr_placed, typed_placed}
use Rattle.model_check.proofs.Placed.Forms.{form_placed}
use Rattle.model_check.proofs.Placed.Statements.{local_placed, body_placed}

module _ (P : Place → Type 0) where
  -- ---- names

  abbrev Named : List RawName → Type 0
  Named = AllByRecursion (λ name. P name.at)

  repeated : (earlier : List (List ℕ)) (names : List RawName) → Named names → Stand P (repeated_diagnostics earlier names)
  repeated earlier [] all = tt
  repeated earlier (name ∷ rest) all =
      stand_both P (refused_unless (not (is_name_among name.name earlier)) Duplicate name.at) _ (unless P (not (is_name_among name.name earlier)) Duplicate name.at all.0)
      (repeated (with_name earlier name.name) rest all.1)

  named : (names : List RawName) → Places P (places_in_all name_places names) → Named names
  named [] all = tt
  named (name ∷ rest) all = (all.0, named rest all.1)

  shared : (one : RawItem) → Places P (item_places one) → Named (shared_name one)
  shared (item.Enum name variants) all = (all.0, tt)
  shared (item.Counter name start) all = (all.0, tt)
  shared (item.Register name type start) all = (all.0, tt)
  shared (item.Accumulator name volume rate) all = (all.0, tt)
  shared (item.Discrete name read) all = tt
  shared (item.Linear name sum) all = tt
  shared (item.Activity name parameters result requires_ body) all = (all.0, tt)
  shared (item.Daemon body) all = tt

  shown : (one : RawItem) → Places P (item_places one) → Named (resource_name one)
  shown (item.Enum name variants) all = tt
  shown (item.Counter name start) all = tt
  shown (item.Register name type start) all = tt
  shown (item.Accumulator name volume rate) all = tt
  shown (item.Discrete name read) all = (all.0, tt)
  shown (item.Linear name sum) all = (all.0, tt)
  shown (item.Activity name parameters result requires_ body) all = tt
  shown (item.Daemon body) all = tt

  names_placed : (name_in : RawItem → List RawName) → ((one : RawItem) → Places P (item_places one) → Named (name_in one)) → (items : List RawItem) → Places P (places_in_all item_places items) → Named (names_in name_in items)
  names_placed name_in each [] all = tt
  names_placed name_in each (one ∷ items) all =
      in_both (λ name. P name.at) (name_in one) _ (each one (in_front P (item_places one) _ all)) (names_placed name_in each items (behind P (item_places one) _ all))

  -- ---- where enumerations and cells are declared

  entry_added : {A : Type 0} (Q : A → Type 0) (table : NameTable A) (name : List ℕ) (value : A) → AllByRecursion Q table.values → Q value → AllByRecursion Q (with_entry table name value).values
  entry_added Q table name value all is = go (is_name_among name table.names)
    where
      go : (b : Bool) → AllByRecursion Q (if b then table.values else table.values ++ value ∷ [])
      go true = all
      go false = in_both Q table.values (value ∷ []) all (is, tt)

  abbrev EnumsPlaced : Enums → Type 0
  EnumsPlaced table = AllByRecursion (λ enum. P enum.at) table.values

  abbrev CellsPlaced : NameTable CellSymbol → Type 0
  CellsPlaced table = AllByRecursion (λ cell. P cell.at) table.values

  one_enum : (table : Enums) (one : RawItem) → EnumsPlaced table → Places P (item_places one) → EnumsPlaced (with_enum_symbol table one)
  one_enum table (item.Enum name variants) all is = entry_added (λ enum. P enum.at) table name.name _ all is.0
  one_enum table (item.Counter name start) all is = all
  one_enum table (item.Register name type start) all is = all
  one_enum table (item.Accumulator name volume rate) all is = all
  one_enum table (item.Discrete name read) all is = all
  one_enum table (item.Linear name sum) all is = all
  one_enum table (item.Activity name parameters result requires_ body) all is = all
  one_enum table (item.Daemon body) all is = all

  enums_placed : (table : Enums) (items : List RawItem) → EnumsPlaced table → Places P (places_in_all item_places items) → EnumsPlaced (enum_symbols_from table items)
  enums_placed table [] all are = all
  enums_placed table (one ∷ items) all are =
      enums_placed (with_enum_symbol table one) items (one_enum table one all (in_front P (item_places one) _ are)) (behind P (item_places one) _ are)

  one_cell : (enums : Enums) (table : NameTable CellSymbol) (one : RawItem) → CellsPlaced table → Places P (item_places one) → CellsPlaced (with_cell_symbol enums table one)
  one_cell enums table (item.Enum name variants) all is = all
  one_cell enums table (item.Counter name start) all is = entry_added (λ cell. P cell.at) table name.name _ all is.0
  one_cell enums table (item.Register name type start) all is = entry_added (λ cell. P cell.at) table name.name _ all is.0
  one_cell enums table (item.Accumulator name volume rate) all is = entry_added (λ cell. P cell.at) table name.name _ all is.0
  one_cell enums table (item.Discrete name read) all is = all
  one_cell enums table (item.Linear name sum) all is = all
  one_cell enums table (item.Activity name parameters result requires_ body) all is = all
  one_cell enums table (item.Daemon body) all is = all

  cells_placed : (enums : Enums) (table : NameTable CellSymbol) (items : List RawItem) → CellsPlaced table → Places P (places_in_all item_places items) → CellsPlaced (cell_symbols_from enums table items)
  cells_placed enums table [] all are = all
  cells_placed enums table (one ∷ items) all are =
      cells_placed enums (with_cell_symbol enums table one) items (one_cell enums table one all (in_front P (item_places one) _ are)) (behind P (item_places one) _ are)

  -- ---- parts of declarations

  typed_literal : (symbols : Symbols) (type : RawType) (literal : RawLiteral) → Places P (literal_places literal) → Stand P (typed_literal_diagnostics symbols type literal)
  typed_literal symbols type literal all =
      stand_both P (literal_diagnostics symbols.enums literal.what) _ (literal_placed P symbols.enums literal.what all.1)
      (mismatched P literal.at (type_kind symbols.enums type) (literal_kind symbols.enums literal.what) all.0)

  rate_placed : (at : Place) (what : RawLiteralKind) → P at → Stand P (rate_diagnostics at what)
  rate_placed at (literal.Number number) is = unless P (is_rate number) OutOfRange at is
  rate_placed at (literal.Truth truth) is = (is, tt)
  rate_placed at (literal.Variant kind variant) is = (is, tt)

  shown_placed : (part : RawPart) (at : Place) (cell : FoundCell) → P at → Stand P (shown_diagnostics part at cell)
  shown_placed Volume at (Some cell) is = (is, tt)
  shown_placed Volume at None is = tt
  shown_placed Whole at cell is = tt
  shown_placed Rate at cell is = tt
  shown_placed Conflicted at cell is = tt

  default_placed : (symbols : Symbols) (type : RawType) (default : Option RawLiteral) → Places P (places_if_any literal_places default) → Stand P (default_diagnostics symbols type default)
  default_placed symbols type None all = tt
  default_placed symbols type (Some literal) all = typed_literal symbols type literal all

  result_placed : (symbols : Symbols) (result : Option RawType) → Places P (places_if_any type_places result) → Stand P (result_type_diagnostics symbols result)
  result_placed symbols None all = tt
  result_placed symbols (Some type) all = type_placed P symbols.enums type all

  requires_placed : (symbols : Symbols) (scope : BodyScope) (truths : List RawExpr) → Places P (places_in_all expr_places truths) → Stand P (requires_diagnostics symbols scope truths)
  requires_placed symbols scope [] all = tt
  requires_placed symbols scope (truth ∷ rest) all =
      stand_both P (typed_diagnostics (bare_symbols symbols.enums) scope Truth truth) _ (typed_placed P (bare_symbols symbols.enums) scope Truth truth (in_front P (expr_places truth) _ all))
      (requires_placed symbols scope rest (behind P (expr_places truth) _ all))

  end_placed : (at : Place) (result : Option RawType) (body : List RawStmt) → P at → Stand P (end_diagnostics at result body)
  end_placed at None body is = tt
  end_placed at (Some type) body is = unless P (returns_at_end body) WrongType at is

  -- ---- declarations

  module _ (symbols : Symbols) (enums : AllByRecursion (λ enum. P enum.at) symbols.enums.values) (cells : AllByRecursion (λ cell. P cell.at) symbols.cells.values) where
    parameter_placed : (scope : BodyScope) (parameter : RawParameter) → Places P (parameter_places parameter) → Stand P (parameter_diagnostics symbols scope parameter)
    parameter_placed scope parameter all =
        stand_both P (local_diagnostics symbols scope parameter.name ++ type_diagnostics symbols.enums parameter.kind) _
        (stand_both P (local_diagnostics symbols scope parameter.name) _ (local_placed P symbols enums cells scope parameter.name all.0) (type_placed P symbols.enums parameter.kind (in_front P (type_places parameter.kind) _ all.1)))
        (default_placed symbols parameter.kind parameter.default (behind P (type_places parameter.kind) _ all.1))

    parameters_placed : (scope : BodyScope) (parameters : List RawParameter) → Places P (places_in_all parameter_places parameters) → Stand P (parameters_diagnostics symbols scope parameters)
    parameters_placed scope [] all = tt
    parameters_placed scope (parameter ∷ rest) all =
        stand_both P (parameter_diagnostics symbols scope parameter) _ (parameter_placed scope parameter (in_front P (parameter_places parameter) _ all))
        (parameters_placed (with_new_local scope parameter.name.name (type_kind symbols.enums parameter.kind) true) rest (behind P (parameter_places parameter) _ all))

    item_placed : (one : RawItem) → Places P (item_places one) → Stand P (item_diagnostics symbols one)
    item_placed (item.Enum name variants) all = repeated [] variants (named variants all.1)
    item_placed (item.Counter name start) all = tt
    item_placed (item.Register name type start) all =
        stand_both P (type_diagnostics symbols.enums type) _ (type_placed P symbols.enums type (in_front P (type_places type) _ all.1)) (typed_literal symbols type start (behind P (type_places type) _ all.1))
    item_placed (item.Accumulator name volume rate) all = rate_placed rate.at rate.what all.1.0
    item_placed (item.Discrete name read) all =
        stand_both P (read_diagnostics symbols empty_scope read) _ (read_placed P symbols empty_scope read all.1.0) (shown_placed read.part read.name.at (entry_in read.name.name symbols.cells) all.1.0)
    item_placed (item.Linear name sum) all =
        stand_both P (expr_diagnostics symbols empty_scope sum) _ (expr_placed P symbols empty_scope sum all.1) (form_placed P Resource symbols empty_scope sum all.1)
    item_placed (item.Activity name parameters result requires_ body) all =
        let scope = parameter_scope symbols empty_scope parameters in
        let behind_parameters = behind P (places_in_all parameter_places parameters) _ all.1 in
        let behind_result = behind P (places_if_any type_places result) _ behind_parameters in
        let one = parameters_placed empty_scope parameters (in_front P (places_in_all parameter_places parameters) _ all.1) in
        let two = result_placed symbols result (in_front P (places_if_any type_places result) _ behind_parameters) in
        let three = requires_placed symbols scope requires_ (in_front P (places_in_all expr_places requires_) _ behind_result) in
        let four = body_placed P symbols enums cells (result_symbol symbols.enums result) body scope (behind P (places_in_all expr_places requires_) _ behind_result) in
        stand_both P _ _ (stand_both P _ _ (stand_both P _ _ (stand_both P _ _ one two) three) four) (end_placed name.at result body all.0)
    item_placed (item.Daemon body) all = body_placed P symbols enums cells None body empty_scope all

    items_placed : (items : List RawItem) → Places P (places_in_all item_places items) → Stand P (items_diagnostics symbols items)
    items_placed [] all = tt
    items_placed (one ∷ items) all =
        stand_both P (item_diagnostics symbols one) _ (item_placed one (in_front P (item_places one) _ all)) (items_placed items (behind P (item_places one) _ all))

  -- ---- models

  model_placed : (raw : RawModel) → Places P (model_places raw) → Stand P (model_diagnostics raw)
  unfolding model_diagnostics model_places symbols_of
  model_placed raw all =
      let items = raw.items in
      let enums = enums_placed no_entries items tt all.1 in
      let cells = cells_placed (enum_symbols_from no_entries items) no_entries items tt all.1 in
      stand_both P (repeated_diagnostics [] (names_in shared_name items) ++ repeated_diagnostics [] (names_in resource_name items)) _
      (stand_both P (repeated_diagnostics [] (names_in shared_name items)) _ (repeated [] (names_in shared_name items) (names_placed shared_name shared items all.1))
      (repeated [] (names_in resource_name items) (names_placed resource_name shown items all.1)))
      (items_placed (symbols_of items) enums cells items all.1)

all_among : (all front rest : List Place) → all ≡ front ++ rest → AllByRecursion (λ place. (before after : List Place) × (all ≡ before ++ (place ∷ after))) rest
all_among all front [] e = tt
all_among all front (place ∷ rest) e = ((front, rest, e), all_among all (front ++ place ∷ []) rest (e ∙ sym (append_assoc front (place ∷ []) rest)))

pub each_placed : (raw : RawModel) → AllByRecursion (λ refusal. IsPlaceOf raw refusal.place) (model_diagnostics raw)
each_placed raw = model_placed (IsPlaceOf raw) raw (all_among (model_places raw) [] (model_places raw) refl)
