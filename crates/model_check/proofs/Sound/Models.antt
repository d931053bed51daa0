-- A model within the limits of which nothing is refused means a valid model.
use Rattle.std.proofs.Common.{◌≡◌, ℕ, ◌≤◌, map, Bool, true, false, ◌&&◌, List, [], ◌∷◌, ◌++◌, Option, Some, nat_lt, slice_get, length, refl, sym, ap, ◌∙◌, subst, arith, append_assoc}
use Rattle.std.proofs.lemmas.Bool.{le-leb}
use Rattle.std.proofs.lemmas.List.{length-append, length-map}
use Rattle.std.specs.List.{AllByRecursion, list_all}
use Rattle.aerie_base.specs.declared.models.CellStart.{CellStart}
use Rattle.aerie_base.specs.declared.models.EnumType.{EnumType}
use Rattle.aerie_base.specs.declared.models.model.Parts.{Parts}
use Rattle.aerie_base.specs.models.Activities.{is_activity, is_daemon}
use Rattle.aerie_base.specs.models.Bodies.{Setting}
use Rattle.aerie_base.specs.models.Cells.{is_cell, read_kind}
use Rattle.aerie_base.specs.models.Limits.{cell_limit, type_limit, enum_limit, resource_limit, daemon_limit}
use Rattle.aerie_base.specs.models.Names.{are_distinct}
use Rattle.aerie_base.specs.models.Resources.{is_resource}
use Rattle.aerie_base.specs.models.Signatures.{Signature, signature_of, signatures_of}
use Rattle.aerie_base.specs.models.ValidModel.{enum_names, cell_names, activity_names, is_enum, has_good_names, has_good_enums, has_good_cells, has_good_resources, has_good_activities, has_good_daemons, valid_model}
use Rattle.model_reader.specs.Limits.{IsLimitedItem, kind_of_item, one_where_same, count_of_kind, IsWithinLimits}
use Rattle.model_reader.specs.reading.Items.{most_of}
use Rattle.model_reader.specs.declared.raw.items.RawItem.{RawItem}
use Rattle.model_reader.specs.declared.raw.items.RawItem.TheVariants as item
use Rattle.model_reader.specs.declared.raw.models.RawModel.{RawModel}
use Rattle.model_reader.specs.declared.reading.declarations.ItemKind.{ItemKind}
use Rattle.model_reader.specs.declared.reading.declarations.ItemKind.TheVariants as kind
use Rattle.model_check.specs.declared.symbols.CellSymbol.{CellSymbol}
use Rattle.model_check.specs.declared.symbols.EnumSymbol.{EnumSymbol}
use Rattle.model_check.specs.declared.symbols.ResultSymbol.{ResultSymbol}
use Rattle.model_check.specs.declared.symbols.Symbols.{Symbols}
use Rattle.model_check.specs.declared.symbols.TypeSymbol.{TypeSymbol}
use Rattle.model_check.specs.declared.tables.NameTable.{NameTable}
use Rattle.model_check.specs.BodyScopes.{empty_scope}
use Rattle.diagnostics.specs.ShortNumbers.{short}
use Rattle.model_check.specs.ModelDiagnostics.{repeated_diagnostics, shared_name, resource_name, names_in, parameter_scope, parameters_diagnostics, result_type_diagnostics, requires_diagnostics, item_diagnostics, items_diagnostics, model_diagnostics}
use Rattle.model_check.specs.ModelMeaning.{names_of, enum_of, cell_of_item, resource_of, activity_of, daemon_of, parts_of_items, model_by, model_of}
use Rattle.model_check.specs.ModelSymbols.{enum_symbols_from, cell_symbols_from, type_symbols_from, symbols_of}
use Rattle.model_check.specs.ModelSymbols.{result_symbol}
use Rattle.model_check.specs.NameTables.{no_entries, entry_in}
use Rattle.model_check.specs.Statements.{block_diagnostics}
use Rattle.diagnostics.specs.NotedInTurn.{front_empty, back_empty}
use Rattle.model_check.proofs.Sound.Empty.{three, five}
use Rattle.model_check.proofs.Sound.Knows.{IsCell, IsEnum}
use Rattle.model_check.proofs.Sound.Invokes.{AllPairs}
use Rattle.model_check.proofs.Sound.Scopes.{entry_stands, SameResult, HasSignature, Suits}
use Rattle.model_check.proofs.Sound.Names.{AreApart, are_apart, are_new, enum_name, cell_name, type_name}
use Rattle.model_check.proofs.Sound.Tables.{pair_at, pairs_of_items, map_of_items, IsTable, enum_symbol, cell_symbol, type_symbol, enum_table, cell_table, type_table}
use Rattle.model_check.proofs.Sound.Facts.{IsGood, SameVariants, enum_pairs, enum_good, found_enum, SameCell, cell_pairs, cell_good, found_cell, short_is}
use Rattle.model_check.proofs.Sound.Activities.{has_signature, kinds_are, activity_good, daemon_good}
use Rattle.model_check.proofs.Sound.Resources.{discrete_good, linear_good}

-- ---- what each declaration gives

all_good : (symbols : Symbols) (items : List RawItem) → items_diagnostics symbols items ≡ [] → AllByRecursion IsLimitedItem items → AllByRecursion (IsGood symbols) items
all_good symbols [] none limited = tt
all_good symbols (one ∷ items) none limited = ((limited.0, front_empty (item_diagnostics symbols one) _ none), all_good symbols items (back_empty (item_diagnostics symbols one) _ none) limited.1)

all_joined : {A : Type 0} (test : A → Bool) (xs ys : List A) → list_all test xs ≡ true → list_all test ys ≡ true → list_all test (xs ++ ys) ≡ true
all_joined test [] ys one two = two
all_joined test (x ∷ xs) ys one two = go (test x) refl (λ h. all_joined test xs ys h two) one
  where
    go : (b : Bool) → test x ≡ b → (list_all test xs ≡ true → list_all test (xs ++ ys) ≡ true) → (b && list_all test xs) ≡ true → (test x && list_all test (xs ++ ys)) ≡ true
    go true e more h = rw e (more h)
    go false e more h = cc

all_of_items : {A : Type 0} (P : RawItem → Type 0) (test : A → Bool) (f : RawItem → List A) → ((one : RawItem) → P one → list_all test (f one) ≡ true) → (items : List RawItem) → AllByRecursion P items
    → list_all test (parts_of_items f items) ≡ true
all_of_items P test f each [] all = refl
all_of_items P test f each (one ∷ items) all = all_joined test (f one) (parts_of_items f items) (each one all.0) (all_of_items P test f each items all.1)

count_of_items : {A : Type 0} (of : ItemKind) (f : RawItem → List A) → ((one : RawItem) → length (f one) ≡ one_where_same of (kind_of_item one)) → (items : List RawItem) → length (parts_of_items f items) ≡ count_of_kind of items
count_of_items of f each [] = refl
count_of_items of f each (one ∷ items) =
    let here = each one in
    let more = count_of_items of f each items in
    let long = length-append (f one) (parts_of_items f items) in
    omega (arith, here, more, long)

enum_count : (one : RawItem) → length (enum_of one) ≡ one_where_same kind.Enum (kind_of_item one)
enum_count (item.Enum name variants) = refl
enum_count (item.Counter name start) = refl
enum_count (item.Register name type start) = refl
enum_count (item.Accumulator name volume rate) = refl
enum_count (item.Discrete name read) = refl
enum_count (item.Linear name sum) = refl
enum_count (item.Activity name parameters result requires_ body) = refl
enum_count (item.Daemon body) = refl

module _ (symbols : Symbols) where
  cell_count : (one : RawItem) → length (cell_of_item symbols one) ≡ one_where_same kind.Cell (kind_of_item one)
  cell_count (item.Enum name variants) = refl
  cell_count (item.Counter name start) = refl
  cell_count (item.Register name type start) = refl
  cell_count (item.Accumulator name volume rate) = refl
  cell_count (item.Discrete name read) = refl
  cell_count (item.Linear name sum) = refl
  cell_count (item.Activity name parameters result requires_ body) = refl
  cell_count (item.Daemon body) = refl

  resource_count : (one : RawItem) → length (resource_of symbols one) ≡ one_where_same kind.Resource (kind_of_item one)
  resource_count (item.Enum name variants) = refl
  resource_count (item.Counter name start) = refl
  resource_count (item.Register name type start) = refl
  resource_count (item.Accumulator name volume rate) = refl
  resource_count (item.Discrete name read) = refl
  resource_count (item.Linear name sum) = refl
  resource_count (item.Activity name parameters result requires_ body) = refl
  resource_count (item.Daemon body) = refl

  activity_count : (one : RawItem) → length (activity_of symbols one) ≡ one_where_same kind.Activity (kind_of_item one)
  activity_count (item.Enum name variants) = refl
  activity_count (item.Counter name start) = refl
  activity_count (item.Register name type start) = refl
  activity_count (item.Accumulator name volume rate) = refl
  activity_count (item.Discrete name read) = refl
  activity_count (item.Linear name sum) = refl
  activity_count (item.Activity name parameters result requires_ body) = refl
  activity_count (item.Daemon body) = refl

  daemon_count : (one : RawItem) → length (daemon_of symbols one) ≡ one_where_same kind.Daemon (kind_of_item one)
  daemon_count (item.Enum name variants) = refl
  daemon_count (item.Counter name start) = refl
  daemon_count (item.Register name type start) = refl
  daemon_count (item.Accumulator name volume rate) = refl
  daemon_count (item.Discrete name read) = refl
  daemon_count (item.Linear name sum) = refl
  daemon_count (item.Activity name parameters result requires_ body) = refl
  daemon_count (item.Daemon body) = refl

  -- ---- names

  cell_names_are : (one : RawItem) → map (λ cell. cell.0) (cell_of_item symbols one) ≡ cell_name one
  cell_names_are (item.Enum name variants) = refl
  cell_names_are (item.Counter name start) = refl
  cell_names_are (item.Register name type start) = refl
  cell_names_are (item.Accumulator name volume rate) = refl
  cell_names_are (item.Discrete name read) = refl
  cell_names_are (item.Linear name sum) = refl
  cell_names_are (item.Activity name parameters result requires_ body) = refl
  cell_names_are (item.Daemon body) = refl

  activity_names_are : (one : RawItem) → map (λ activity. activity.name) (activity_of symbols one) ≡ type_name one
  activity_names_are (item.Enum name variants) = refl
  activity_names_are (item.Counter name start) = refl
  activity_names_are (item.Register name type start) = refl
  activity_names_are (item.Accumulator name volume rate) = refl
  activity_names_are (item.Discrete name read) = refl
  activity_names_are (item.Linear name sum) = refl
  activity_names_are (item.Activity name parameters result requires_ body) = refl
  activity_names_are (item.Daemon body) = refl

  resource_names_are : (items : List RawItem) → map (λ resource. resource.0) (parts_of_items (resource_of symbols) items) ≡ names_of (names_in resource_name items)
  resource_names_are [] = refl
  resource_names_are (item.Enum name variants ∷ items) = resource_names_are items
  resource_names_are (item.Counter name start ∷ items) = resource_names_are items
  resource_names_are (item.Register name type start ∷ items) = resource_names_are items
  resource_names_are (item.Accumulator name volume rate ∷ items) = resource_names_are items
  resource_names_are (item.Discrete name read ∷ items) = ap (λ (names : List (List ℕ)). name.name ∷ names) (resource_names_are items)
  resource_names_are (item.Linear name sum ∷ items) = ap (λ (names : List (List ℕ)). name.name ∷ names) (resource_names_are items)
  resource_names_are (item.Activity name parameters result requires_ body ∷ items) = resource_names_are items
  resource_names_are (item.Daemon body ∷ items) = resource_names_are items

enum_names_are : (one : RawItem) → map (λ enum. enum.name) (enum_of one) ≡ enum_name one
enum_names_are (item.Enum name variants) = refl
enum_names_are (item.Counter name start) = refl
enum_names_are (item.Register name type start) = refl
enum_names_are (item.Accumulator name volume rate) = refl
enum_names_are (item.Discrete name read) = refl
enum_names_are (item.Linear name sum) = refl
enum_names_are (item.Activity name parameters result requires_ body) = refl
enum_names_are (item.Daemon body) = refl

-- ---- a whole model, by what its names stand for

-- what is known of the declarations and of the symbols that they make
record Stands (items : List RawItem) (symbols : Symbols) : Type 0 where
  enums_are : symbols.enums ≡ enum_symbols_from no_entries items
  cells_are : symbols.cells ≡ cell_symbols_from symbols.enums no_entries items
  types_are : symbols.types ≡ type_symbols_from symbols.enums no_entries items

module _ (raw : RawModel) (symbols : Symbols) (stands : Stands raw.items symbols) (counts : (of : ItemKind) → count_of_kind of raw.items ≤ (most_of of).count) (apart : AreApart raw.items) (all : AllByRecursion (IsGood symbols) raw.items) where
  abbrev items : List RawItem
  items = raw.items

  abbrev model : Parts
  model = model_by symbols raw

  few_enums : length model.enums ≤ enum_limit
  few_enums = let count = count_of_items kind.Enum enum_of enum_count items in let few = counts kind.Enum in omega (arith, count, few)

  few_cells : length model.cells ≤ cell_limit
  few_cells = let count = count_of_items kind.Cell (cell_of_item symbols) (cell_count symbols) items in let few = counts kind.Cell in omega (arith, count, few)

  few_resources : length model.resources ≤ resource_limit
  few_resources = let count = count_of_items kind.Resource (resource_of symbols) (resource_count symbols) items in let few = counts kind.Resource in omega (arith, count, few)

  few_activities : length model.activities ≤ type_limit
  few_activities = let count = count_of_items kind.Activity (activity_of symbols) (activity_count symbols) items in let few = counts kind.Activity in omega (arith, count, few)

  few_daemons : length model.daemons ≤ daemon_limit
  few_daemons = let count = count_of_items kind.Daemon (daemon_of symbols) (daemon_count symbols) items in let few = counts kind.Daemon in omega (arith, count, few)

  -- ---- enumerations

  enums_stand : IsTable symbols.enums (parts_of_items enum_name items) (parts_of_items enum_symbol items)
  enums_stand = subst (λ (table : NameTable EnumSymbol). IsTable table (parts_of_items enum_name items) (parts_of_items enum_symbol items)) (sym stands.enums_are) (enum_table items apart.enums)

  same_enums : AllPairs SameVariants (parts_of_items enum_symbol items) model.enums
  same_enums = pairs_of_items SameVariants enum_symbol enum_of (IsGood symbols) (enum_pairs symbols) items all

  known_enums : (name : List ℕ) (entry : ℕ × EnumSymbol) → entry_in name symbols.enums ≡ Some entry → (nat_lt (short entry.0) (length model.enums) ≡ true) × IsEnum model.enums entry
  known_enums name entry e =
      found_enum (parts_of_items enum_symbol items) model.enums entry same_enums few_enums
      (subst (λ (values : List EnumSymbol). slice_get values entry.0 ≡ Some entry.1) enums_stand.values_are (entry_stands name symbols.enums entry e))

  -- ---- cells

  cells_stand : IsTable symbols.cells (parts_of_items cell_name items) (parts_of_items (cell_symbol symbols.enums) items)
  cells_stand = subst (λ (table : NameTable CellSymbol). IsTable table (parts_of_items cell_name items) (parts_of_items (cell_symbol symbols.enums) items)) (sym stands.cells_are) (cell_table symbols.enums items apart.cells)

  same_cells : AllPairs (SameCell symbols model.enums known_enums) (parts_of_items (cell_symbol symbols.enums) items) model.cells
  same_cells = pairs_of_items (SameCell symbols model.enums known_enums) (cell_symbol symbols.enums) (cell_of_item symbols) (IsGood symbols) (cell_pairs symbols model.enums known_enums) items all

  known_cells : (name : List ℕ) (entry : ℕ × CellSymbol) → entry_in name symbols.cells ≡ Some entry → IsCell (read_kind model.cells) (short entry.0) entry.1.sort
  known_cells name entry e =
      found_cell symbols model.enums known_enums (parts_of_items (cell_symbol symbols.enums) items) model.cells entry same_cells few_cells
      (subst (λ (values : List CellSymbol). slice_get values entry.0 ≡ Some entry.1) cells_stand.values_are (entry_stands name symbols.cells entry e))

  -- ---- activity types

  abbrev signatures : List Signature
  signatures = signatures_of model.activities

  types_stand : IsTable symbols.types (parts_of_items type_name items) (parts_of_items (type_symbol symbols.enums) items)
  types_stand = subst (λ (table : NameTable TypeSymbol). IsTable table (parts_of_items type_name items) (parts_of_items (type_symbol symbols.enums) items)) (sym stands.types_are) (type_table symbols.enums items apart.types)

  type_pairs : (one : RawItem) → IsGood symbols one → AllPairs (HasSignature model.enums) (type_symbol symbols.enums one) (map signature_of (activity_of symbols one))
  type_pairs (item.Enum name variants) good = tt
  type_pairs (item.Counter name start) good = tt
  type_pairs (item.Register name type start) good = tt
  type_pairs (item.Accumulator name volume rate) good = tt
  type_pairs (item.Discrete name read) good = tt
  type_pairs (item.Linear name sum) good = tt
  type_pairs (item.Activity name parameters result requires_ body) good =
      let limited = good.0 in
      let scope = parameter_scope symbols empty_scope parameters in
      let none = five (parameters_diagnostics symbols empty_scope parameters) (result_type_diagnostics symbols result) (requires_diagnostics symbols scope requires_) (block_diagnostics symbols (result_symbol symbols.enums result) body scope) _ good.1 in (
        has_signature symbols model.enums known_enums parameters result _ (kinds_are symbols model.enums known_enums parameters) limited.0.1 (front_empty (parameters_diagnostics symbols empty_scope parameters) _ none)
            (front_empty (result_type_diagnostics symbols result) _ (back_empty (parameters_diagnostics symbols empty_scope parameters) _ none)),
        tt,
      )
  type_pairs (item.Daemon body) good = tt

  same_types : AllPairs (HasSignature model.enums) (parts_of_items (type_symbol symbols.enums) items) signatures
  same_types =
      subst (AllPairs (HasSignature model.enums) (parts_of_items (type_symbol symbols.enums) items)) (sym (map_of_items signature_of (activity_of symbols) (λ one. map signature_of (activity_of symbols one)) (λ one. refl) items))
      (pairs_of_items (HasSignature model.enums) (type_symbol symbols.enums) (λ one. map signature_of (activity_of symbols one)) (IsGood symbols) type_pairs items all)

  known_types : (name : List ℕ) (entry : ℕ × TypeSymbol) → entry_in name symbols.types ≡ Some entry → (signature : Signature) × (slice_get signatures (short entry.0) ≡ Some signature) × HasSignature model.enums entry.1 signature
  known_types name entry e =
      let pair = pair_at (HasSignature model.enums) (parts_of_items (type_symbol symbols.enums) items) signatures entry.0 entry.1 same_types
      (subst (λ (values : List TypeSymbol). slice_get values entry.0 ≡ Some entry.1) types_stand.values_are (entry_stands name symbols.types entry e)) in
      let long = length-map model.activities signature_of in
      let here = short_is entry.0 (omega (arith, pair.below, long, few_activities)) in
      (pair.other, ap (slice_get signatures) here ∙ pair.stands, pair.related)

  suits : (returns : Option ResultSymbol) (setting : Setting) → setting.enums ≡ model.enums → setting.cells ≡ model.cells → setting.signatures ≡ signatures → SameResult returns setting.result → Suits symbols returns setting
  suits returns setting e c s result = record {
    cell = λ name entry found. subst (λ (cells : List (List ℕ × CellStart)). IsCell (read_kind cells) (short entry.0) entry.1.sort) (sym c) (known_cells name entry found);
    variant = λ name entry found. subst (λ (enums : List EnumType). IsEnum enums entry) (sym e) (known_enums name entry found).1;
    type = λ name entry found.
        subst (λ (enums : List EnumType). (signature : Signature) × (slice_get setting.signatures (short entry.0) ≡ Some signature) × HasSignature enums entry.1 signature) (sym e)
        (subst (λ (its : List Signature). (signature : Signature) × (slice_get its (short entry.0) ≡ Some signature) × HasSignature model.enums entry.1 signature) (sym s) (known_types name entry found));
    result = result;
  }

  -- ---- the parts of a valid model

  good_enums : has_good_enums model ≡ true
  unfolding has_good_enums
  good_enums = rw (le-leb (length model.enums) enum_limit few_enums, all_of_items (IsGood symbols) is_enum enum_of (enum_good symbols) items all) refl

  good_cells : has_good_cells model ≡ true
  unfolding has_good_cells
  good_cells =
      rw (le-leb (length model.cells) cell_limit few_cells, all_of_items (IsGood symbols) (λ cell. is_cell model.enums cell.1) (cell_of_item symbols) (cell_good symbols model.enums known_enums) items all) refl

  resource_good : (one : RawItem) → IsGood symbols one → list_all (λ resource. is_resource model.cells resource.1) (resource_of symbols one) ≡ true
  resource_good (item.Enum name variants) good = refl
  resource_good (item.Counter name start) good = refl
  resource_good (item.Register name type start) good = refl
  resource_good (item.Accumulator name volume rate) good = refl
  resource_good (item.Discrete name read) good = rw (discrete_good symbols model.cells known_cells read good.1) refl
  resource_good (item.Linear name sum) good = rw (linear_good symbols model.cells known_cells sum good.0.1 good.1) refl
  resource_good (item.Activity name parameters result requires_ body) good = refl
  resource_good (item.Daemon body) good = refl

  good_resources : has_good_resources model ≡ true
  unfolding has_good_resources
  good_resources =
      rw (le-leb (length model.resources) resource_limit few_resources, all_of_items (IsGood symbols) (λ resource. is_resource model.cells resource.1) (resource_of symbols) resource_good items all) refl

  -- each name has its value
  enum_symbol_count : (one : RawItem) → length (enum_name one) ≡ length (enum_symbol one)
  enum_symbol_count (item.Enum name variants) = refl
  enum_symbol_count (item.Counter name start) = refl
  enum_symbol_count (item.Register name type start) = refl
  enum_symbol_count (item.Accumulator name volume rate) = refl
  enum_symbol_count (item.Discrete name read) = refl
  enum_symbol_count (item.Linear name sum) = refl
  enum_symbol_count (item.Activity name parameters result requires_ body) = refl
  enum_symbol_count (item.Daemon body) = refl

  cell_symbol_count : (one : RawItem) → length (cell_name one) ≡ length (cell_symbol symbols.enums one)
  cell_symbol_count (item.Enum name variants) = refl
  cell_symbol_count (item.Counter name start) = refl
  cell_symbol_count (item.Register name type start) = refl
  cell_symbol_count (item.Accumulator name volume rate) = refl
  cell_symbol_count (item.Discrete name read) = refl
  cell_symbol_count (item.Linear name sum) = refl
  cell_symbol_count (item.Activity name parameters result requires_ body) = refl
  cell_symbol_count (item.Daemon body) = refl

  same_count : {A B : Type 0} (f : RawItem → List A) (g : RawItem → List B) → ((one : RawItem) → length (f one) ≡ length (g one)) → (some : List RawItem) → length (parts_of_items f some) ≡ length (parts_of_items g some)
  same_count f g each [] = refl
  same_count f g each (one ∷ some) =
      let here = each one in
      let more = same_count f g each some in
      let left = length-append (f one) (parts_of_items f some) in
      let right = length-append (g one) (parts_of_items g some) in
      omega (arith, here, more, left, right)

  enums_aligned : length symbols.enums.names ≡ length symbols.enums.values
  enums_aligned = ap length enums_stand.names_are ∙ same_count enum_name enum_symbol enum_symbol_count items ∙ sym (ap length enums_stand.values_are)

  cells_aligned : length symbols.cells.names ≡ length symbols.cells.values
  cells_aligned = ap length cells_stand.names_are ∙ same_count cell_name (cell_symbol symbols.enums) cell_symbol_count items ∙ sym (ap length cells_stand.values_are)

  enum_names_here : enum_names model ≡ parts_of_items enum_name items
  enum_names_here = map_of_items (λ enum. enum.name) enum_of enum_name enum_names_are items

  cell_names_here : cell_names model ≡ parts_of_items cell_name items
  cell_names_here = map_of_items (λ cell. cell.0) (cell_of_item symbols) cell_name (cell_names_are symbols) items

  activity_names_here : activity_names model ≡ parts_of_items type_name items
  activity_names_here = map_of_items (λ activity. activity.name) (activity_of symbols) type_name (activity_names_are symbols) items

  taken_names : symbols.enums.names ++ symbols.cells.names ≡ enum_names model ++ cell_names model
  taken_names = λ i. (enums_stand.names_are ∙ sym enum_names_here) i ++ (cells_stand.names_are ∙ sym cell_names_here) i

  one_activity : (one : RawItem) → IsGood symbols one → list_all (is_activity model.enums model.cells signatures (symbols.enums.names ++ symbols.cells.names)) (activity_of symbols one) ≡ true
  one_activity (item.Enum name variants) good = refl
  one_activity (item.Counter name start) good = refl
  one_activity (item.Register name type start) good = refl
  one_activity (item.Accumulator name volume rate) good = refl
  one_activity (item.Discrete name read) good = refl
  one_activity (item.Linear name sum) good = refl
  one_activity (item.Activity name parameters result requires_ body) good =
      let limited = good.0 in
      rw (activity_good symbols model.enums known_enums model.cells signatures enums_aligned cells_aligned suits name parameters result requires_ body limited.0.0 limited.0.1 limited.1.0 limited.1.1 limited.2 good.1) refl
  one_activity (item.Daemon body) good = refl

  good_activities : has_good_activities model ≡ true
  unfolding has_good_activities
  good_activities =
      rw (
        le-leb (length model.activities) type_limit few_activities,
        subst (λ (taken : List (List ℕ)). list_all (is_activity model.enums model.cells signatures taken) model.activities ≡ true) taken_names
            (all_of_items (IsGood symbols) (is_activity model.enums model.cells signatures (symbols.enums.names ++ symbols.cells.names)) (activity_of symbols) one_activity items all),
      ) refl

  one_daemon : (one : RawItem) → IsGood symbols one → list_all (is_daemon model.enums model.cells signatures) (daemon_of symbols one) ≡ true
  one_daemon (item.Enum name variants) good = refl
  one_daemon (item.Counter name start) good = refl
  one_daemon (item.Register name type start) good = refl
  one_daemon (item.Accumulator name volume rate) good = refl
  one_daemon (item.Discrete name read) good = refl
  one_daemon (item.Linear name sum) good = refl
  one_daemon (item.Activity name parameters result requires_ body) good = refl
  one_daemon (item.Daemon body) good = rw (daemon_good symbols model.enums known_enums model.cells signatures enums_aligned cells_aligned suits body good.0 good.1) refl

  good_daemons : has_good_daemons model ≡ true
  unfolding has_good_daemons
  good_daemons =
      rw (le-leb (length model.daemons) daemon_limit few_daemons, all_of_items (IsGood symbols) (is_daemon model.enums model.cells signatures) (daemon_of symbols) one_daemon items all) refl

  good_names : repeated_diagnostics [] (names_in resource_name items) ≡ [] → has_good_names model ≡ true
  unfolding has_good_names
  good_names none =
      let new = are_new [] (names_in resource_name items) refl none in
      rw ((λ i. are_distinct (enum_names_here i ++ cell_names_here i ++ activity_names_here i)) ∙ ap are_distinct (append_assoc (parts_of_items enum_name items) (parts_of_items cell_name items) (parts_of_items type_name items)) ∙ apart.all, ap are_distinct (resource_names_are symbols items) ∙ new.distinct) refl

  valid : repeated_diagnostics [] (names_in resource_name items) ≡ [] → valid_model model ≡ true
  unfolding valid_model
  valid none = rw (good_names none, good_enums, good_cells, good_resources, good_activities, good_daemons) refl

-- ---- the law

symbols_stand : (items : List RawItem) → Stands items (symbols_of items)
unfolding symbols_of
symbols_stand its = record { enums_are = refl; cells_are = refl; types_are = refl }

pub is_valid : (raw : RawModel) → IsWithinLimits raw → model_diagnostics raw ≡ [] → valid_model (model_of raw) ≡ true
unfolding model_diagnostics model_of
is_valid raw within none =
    let apart = three (repeated_diagnostics [] (names_in shared_name raw.items)) (repeated_diagnostics [] (names_in resource_name raw.items)) _ none in
    let shared = front_empty (repeated_diagnostics [] (names_in shared_name raw.items)) _ apart in
    let rest = back_empty (repeated_diagnostics [] (names_in shared_name raw.items)) _ apart in
    let resources = front_empty (repeated_diagnostics [] (names_in resource_name raw.items)) _ rest in
    let each = back_empty (repeated_diagnostics [] (names_in resource_name raw.items)) _ rest in
    valid raw (symbols_of raw.items) (symbols_stand raw.items) within.0 (are_apart raw.items shared) (all_good (symbols_of raw.items) raw.items each within.1) resources
