-- What the names of a model stand for in the text is what the model has at their numbers.
use Rattle.std.proofs.Common.{◌≡◌, ℕ, zero, suc, ◌<◌, map, true, List, [], ◌∷◌, ◌++◌, Some, slice_get, length, refl, sym, ap, ◌∙◌, subst, arith}
use Rattle.std.specs.List.{AllByRecursion}
use Rattle.aerie_base.specs.models.Names.{are_distinct}
use Rattle.model_reader.specs.declared.raw.items.RawItem.{RawItem}
use Rattle.model_reader.specs.declared.raw.items.RawItem.TheVariants as item
use Rattle.model_reader.specs.declared.raw.items.RawParameter.{RawParameter}
use Rattle.model_check.specs.declared.symbols.CellSort.TheVariants as sort
use Rattle.model_check.specs.declared.symbols.CellSymbol.{CellSymbol}
use Rattle.model_check.specs.declared.symbols.EnumSymbol.{EnumSymbol}
use Rattle.model_check.specs.declared.symbols.ParameterSymbol.{ParameterSymbol}
use Rattle.model_check.specs.declared.symbols.TypeSymbol.{TypeSymbol}
use Rattle.model_check.specs.declared.tables.NameTable.{NameTable}
use Rattle.model_check.specs.ModelMeaning.{parts_of_items}
use Rattle.model_check.specs.ModelSymbols.{type_kind, with_names, with_enum_symbol, enum_symbols_from, with_cell_symbol, cell_symbols_from, parameter_symbol, parameters_from, result_symbol, with_type_symbol, type_symbols_from}
use Rattle.model_check.specs.NameTables.{no_entries, with_entry}
use Rattle.model_check.proofs.Sound.Invokes.{AllPairs}
use Rattle.model_check.proofs.Sound.Names.{with_all, with_all_appended, entry_names, entry_values, all_stand, enum_name, cell_name, type_name}

-- ---- related lists

pub pairs_appended : {A B : Type 0} (R : A → B → Type 0) (xs zs : List A) (ys ws : List B) → AllPairs R xs ys → AllPairs R zs ws → AllPairs R (xs ++ zs) (ys ++ ws)
pairs_appended R [] zs [] ws pairs more = more
pairs_appended R [] zs (y ∷ ys) ws pairs more = absurd pairs
pairs_appended R (x ∷ xs) zs [] ws pairs more = absurd pairs
pairs_appended R (x ∷ xs) zs (y ∷ ys) ws pairs more = (pairs.0, pairs_appended R xs zs ys ws pairs.1 more)

pub record IsPaired {A B : Type 0} (R : A → B → Type 0) (x : A) (ys : List B) (number : ℕ) : Type 0 where
  pub other : B
  pub stands : slice_get ys number ≡ Some other
  pub related : R x other
  pub below : number < length ys

pub pair_at : {A B : Type 0} (R : A → B → Type 0) (xs : List A) (ys : List B) (number : ℕ) (x : A) → AllPairs R xs ys → slice_get xs number ≡ Some x → IsPaired R x ys number
pair_at R [] ys number x pairs e = cc
pair_at R (a ∷ xs) [] number x pairs e = absurd pairs
pair_at R (a ∷ xs) (b ∷ ys) zero x pairs e = record { other = b; stands = refl; related = subst (λ (other : _). R other b) (some_is e) pairs.0; below = omega arith }
  where
    some_is : {A : Type 0} {a b : A} → Some a ≡ Some b → a ≡ b
    some_is h = cc
pair_at R (a ∷ xs) (b ∷ ys) (suc number) x pairs e =
    let more = pair_at R xs ys number x pairs.1 e in
    record { other = more.other; stands = more.stands; related = more.related; below = omega (arith, more.below) }

-- what each declaration makes, where it does so for each
pub pairs_of_items : {A B : Type 0} (R : A → B → Type 0) (f : RawItem → List A) (g : RawItem → List B) (P : RawItem → Type 0) → ((one : RawItem) → P one → AllPairs R (f one) (g one))
    → (items : List RawItem) → AllByRecursion P items → AllPairs R (parts_of_items f items) (parts_of_items g items)
pairs_of_items R f g P each [] all = tt
pairs_of_items R f g P each (one ∷ items) all = pairs_appended R (f one) (parts_of_items f items) (g one) (parts_of_items g items) (each one all.0) (pairs_of_items R f g P each items all.1)

map_appended : {A B : Type 0} (f : A → B) (xs ys : List A) → map f (xs ++ ys) ≡ map f xs ++ map f ys
map_appended f [] ys = refl
map_appended f (x ∷ xs) ys = ap (λ (zs : List _). f x ∷ zs) (map_appended f xs ys)

-- a part of what each declaration makes
pub map_of_items : {A B : Type 0} (f : A → B) (g : RawItem → List A) (h : RawItem → List B) → ((one : RawItem) → map f (g one) ≡ h one) → (items : List RawItem) → map f (parts_of_items g items) ≡ parts_of_items h items
map_of_items f g h each [] = refl
map_of_items f g h each (one ∷ items) = map_appended f (g one) (parts_of_items g items) ∙ (λ i. each one i ++ map_of_items f g h each items i)

-- ---- enumerations

abbrev pub enum_symbol : RawItem → List EnumSymbol
enum_symbol (item.Enum name variants) = record { at = name.at; variants = with_names [] variants } ∷ []
enum_symbol _ = []

abbrev enum_entry : RawItem → List (List ℕ × EnumSymbol)
enum_entry (item.Enum name variants) = (name.name, record { at = name.at; variants = with_names [] variants }) ∷ []
enum_entry _ = []

with_enum : (table : NameTable EnumSymbol) (one : RawItem) → with_enum_symbol table one ≡ with_all table (enum_entry one)
with_enum table (item.Enum name variants) = refl
with_enum table (item.Counter name start) = refl
with_enum table (item.Register name type start) = refl
with_enum table (item.Accumulator name volume rate) = refl
with_enum table (item.Discrete name read) = refl
with_enum table (item.Linear name sum) = refl
with_enum table (item.Activity name parameters result requires_ body) = refl
with_enum table (item.Daemon body) = refl

enums_from : (table : NameTable EnumSymbol) (items : List RawItem) → enum_symbols_from table items ≡ with_all table (parts_of_items enum_entry items)
enums_from table [] = refl
enums_from table (one ∷ items) =
    ap (λ (next : NameTable EnumSymbol). enum_symbols_from next items) (with_enum table one) ∙ enums_from (with_all table (enum_entry one)) items
    ∙ sym (with_all_appended table (enum_entry one) (parts_of_items enum_entry items))

enum_entry_name : (one : RawItem) → entry_names (enum_entry one) ≡ enum_name one
enum_entry_name (item.Enum name variants) = refl
enum_entry_name (item.Counter name start) = refl
enum_entry_name (item.Register name type start) = refl
enum_entry_name (item.Accumulator name volume rate) = refl
enum_entry_name (item.Discrete name read) = refl
enum_entry_name (item.Linear name sum) = refl
enum_entry_name (item.Activity name parameters result requires_ body) = refl
enum_entry_name (item.Daemon body) = refl

enum_entry_value : (one : RawItem) → entry_values (enum_entry one) ≡ enum_symbol one
enum_entry_value (item.Enum name variants) = refl
enum_entry_value (item.Counter name start) = refl
enum_entry_value (item.Register name type start) = refl
enum_entry_value (item.Accumulator name volume rate) = refl
enum_entry_value (item.Discrete name read) = refl
enum_entry_value (item.Linear name sum) = refl
enum_entry_value (item.Activity name parameters result requires_ body) = refl
enum_entry_value (item.Daemon body) = refl

pub record IsTable {A : Type 0} (table : NameTable A) (names : List (List ℕ)) (values : List A) : Type 0 where
  pub names_are : table.names ≡ names
  pub values_are : table.values ≡ values

table_of : {A : Type 0} (entries : List (List ℕ × A)) (names : List (List ℕ)) (values : List A) → entry_names entries ≡ names → entry_values entries ≡ values → are_distinct names ≡ true
    → IsTable (with_all no_entries entries) names values
table_of entries names values en ev distinct =
    let stand = all_stand no_entries entries (ap are_distinct en ∙ distinct) in
    record { names_are = ap (λ (table : NameTable _). table.names) stand ∙ en; values_are = ap (λ (table : NameTable _). table.values) stand ∙ ev }

pub enum_table : (items : List RawItem) → are_distinct (parts_of_items enum_name items) ≡ true → IsTable (enum_symbols_from no_entries items) (parts_of_items enum_name items) (parts_of_items enum_symbol items)
enum_table items distinct =
    subst (λ (table : NameTable EnumSymbol). IsTable table (parts_of_items enum_name items) (parts_of_items enum_symbol items)) (sym (enums_from no_entries items))
    (table_of (parts_of_items enum_entry items) (parts_of_items enum_name items) (parts_of_items enum_symbol items)
    (map_of_items (λ entry. entry.0) enum_entry enum_name enum_entry_name items) (map_of_items (λ entry. entry.1) enum_entry enum_symbol enum_entry_value items) distinct)

-- ---- cells

abbrev pub cell_symbol : NameTable EnumSymbol → RawItem → List CellSymbol
cell_symbol enums (item.Counter name start) = record { at = name.at; sort = sort.Counter } ∷ []
cell_symbol enums (item.Register name type start) = record { at = name.at; sort = sort.Register (type_kind enums type) } ∷ []
cell_symbol enums (item.Accumulator name volume rate) = record { at = name.at; sort = sort.Accumulator } ∷ []
cell_symbol enums _ = []

abbrev cell_entry : NameTable EnumSymbol → RawItem → List (List ℕ × CellSymbol)
cell_entry enums (item.Counter name start) = (name.name, record { at = name.at; sort = sort.Counter }) ∷ []
cell_entry enums (item.Register name type start) = (name.name, record { at = name.at; sort = sort.Register (type_kind enums type) }) ∷ []
cell_entry enums (item.Accumulator name volume rate) = (name.name, record { at = name.at; sort = sort.Accumulator }) ∷ []
cell_entry enums _ = []

module _ (enums : NameTable EnumSymbol) where
  with_cell : (table : NameTable CellSymbol) (one : RawItem) → with_cell_symbol enums table one ≡ with_all table (cell_entry enums one)
  with_cell table (item.Enum name variants) = refl
  with_cell table (item.Counter name start) = refl
  with_cell table (item.Register name type start) = refl
  with_cell table (item.Accumulator name volume rate) = refl
  with_cell table (item.Discrete name read) = refl
  with_cell table (item.Linear name sum) = refl
  with_cell table (item.Activity name parameters result requires_ body) = refl
  with_cell table (item.Daemon body) = refl

  cells_from : (table : NameTable CellSymbol) (items : List RawItem) → cell_symbols_from enums table items ≡ with_all table (parts_of_items (cell_entry enums) items)
  cells_from table [] = refl
  cells_from table (one ∷ items) =
      ap (λ (next : NameTable CellSymbol). cell_symbols_from enums next items) (with_cell table one) ∙ cells_from (with_all table (cell_entry enums one)) items
      ∙ sym (with_all_appended table (cell_entry enums one) (parts_of_items (cell_entry enums) items))

  cell_entry_name : (one : RawItem) → entry_names (cell_entry enums one) ≡ cell_name one
  cell_entry_name (item.Enum name variants) = refl
  cell_entry_name (item.Counter name start) = refl
  cell_entry_name (item.Register name type start) = refl
  cell_entry_name (item.Accumulator name volume rate) = refl
  cell_entry_name (item.Discrete name read) = refl
  cell_entry_name (item.Linear name sum) = refl
  cell_entry_name (item.Activity name parameters result requires_ body) = refl
  cell_entry_name (item.Daemon body) = refl

  cell_entry_value : (one : RawItem) → entry_values (cell_entry enums one) ≡ cell_symbol enums one
  cell_entry_value (item.Enum name variants) = refl
  cell_entry_value (item.Counter name start) = refl
  cell_entry_value (item.Register name type start) = refl
  cell_entry_value (item.Accumulator name volume rate) = refl
  cell_entry_value (item.Discrete name read) = refl
  cell_entry_value (item.Linear name sum) = refl
  cell_entry_value (item.Activity name parameters result requires_ body) = refl
  cell_entry_value (item.Daemon body) = refl

  pub cell_table : (items : List RawItem) → are_distinct (parts_of_items cell_name items) ≡ true → IsTable (cell_symbols_from enums no_entries items) (parts_of_items cell_name items) (parts_of_items (cell_symbol enums) items)
  cell_table items distinct =
      subst (λ (table : NameTable CellSymbol). IsTable table (parts_of_items cell_name items) (parts_of_items (cell_symbol enums) items)) (sym (cells_from no_entries items))
      (table_of (parts_of_items (cell_entry enums) items) (parts_of_items cell_name items) (parts_of_items (cell_symbol enums) items)
      (map_of_items (λ entry. entry.0) (cell_entry enums) cell_name cell_entry_name items) (map_of_items (λ entry. entry.1) (cell_entry enums) (cell_symbol enums) cell_entry_value items) distinct)

  -- ---- activity types

  abbrev pub type_symbol : RawItem → List TypeSymbol
  type_symbol (item.Activity name parameters result requires_ body) =
      record { parameters = parameters_from enums no_entries parameters; result = result_symbol enums result } ∷ []
  type_symbol _ = []

  abbrev type_entry : RawItem → List (List ℕ × TypeSymbol)
  type_entry (item.Activity name parameters result requires_ body) =
      (name.name, record { parameters = parameters_from enums no_entries parameters; result = result_symbol enums result }) ∷ []
  type_entry _ = []

  with_type : (table : NameTable TypeSymbol) (one : RawItem) → with_type_symbol enums table one ≡ with_all table (type_entry one)
  with_type table (item.Enum name variants) = refl
  with_type table (item.Counter name start) = refl
  with_type table (item.Register name type start) = refl
  with_type table (item.Accumulator name volume rate) = refl
  with_type table (item.Discrete name read) = refl
  with_type table (item.Linear name sum) = refl
  with_type table (item.Activity name parameters result requires_ body) = refl
  with_type table (item.Daemon body) = refl

  types_from : (table : NameTable TypeSymbol) (items : List RawItem) → type_symbols_from enums table items ≡ with_all table (parts_of_items type_entry items)
  types_from table [] = refl
  types_from table (one ∷ items) =
      ap (λ (next : NameTable TypeSymbol). type_symbols_from enums next items) (with_type table one) ∙ types_from (with_all table (type_entry one)) items
      ∙ sym (with_all_appended table (type_entry one) (parts_of_items type_entry items))

  type_entry_name : (one : RawItem) → entry_names (type_entry one) ≡ type_name one
  type_entry_name (item.Enum name variants) = refl
  type_entry_name (item.Counter name start) = refl
  type_entry_name (item.Register name type start) = refl
  type_entry_name (item.Accumulator name volume rate) = refl
  type_entry_name (item.Discrete name read) = refl
  type_entry_name (item.Linear name sum) = refl
  type_entry_name (item.Activity name parameters result requires_ body) = refl
  type_entry_name (item.Daemon body) = refl

  type_entry_value : (one : RawItem) → entry_values (type_entry one) ≡ type_symbol one
  type_entry_value (item.Enum name variants) = refl
  type_entry_value (item.Counter name start) = refl
  type_entry_value (item.Register name type start) = refl
  type_entry_value (item.Accumulator name volume rate) = refl
  type_entry_value (item.Discrete name read) = refl
  type_entry_value (item.Linear name sum) = refl
  type_entry_value (item.Activity name parameters result requires_ body) = refl
  type_entry_value (item.Daemon body) = refl

  pub type_table : (items : List RawItem) → are_distinct (parts_of_items type_name items) ≡ true → IsTable (type_symbols_from enums no_entries items) (parts_of_items type_name items) (parts_of_items type_symbol items)
  type_table items distinct =
      subst (λ (table : NameTable TypeSymbol). IsTable table (parts_of_items type_name items) (parts_of_items type_symbol items)) (sym (types_from no_entries items))
      (table_of (parts_of_items type_entry items) (parts_of_items type_name items) (parts_of_items type_symbol items)
      (map_of_items (λ entry. entry.0) type_entry type_name type_entry_name items) (map_of_items (λ entry. entry.1) type_entry type_symbol type_entry_value items) distinct)

  -- ---- parameters

  abbrev parameter_entries : List RawParameter → List (List ℕ × ParameterSymbol)
  parameter_entries [] = []
  parameter_entries (parameter ∷ rest) = (parameter.name.name, parameter_symbol enums parameter) ∷ parameter_entries rest

  abbrev pub written_names : List RawParameter → List (List ℕ)
  written_names [] = []
  written_names (parameter ∷ rest) = parameter.name.name ∷ written_names rest

  abbrev pub written_symbols : List RawParameter → List ParameterSymbol
  written_symbols [] = []
  written_symbols (parameter ∷ rest) = parameter_symbol enums parameter ∷ written_symbols rest

  parameters_all : (table : NameTable ParameterSymbol) (written : List RawParameter) → parameters_from enums table written ≡ with_all table (parameter_entries written)
  parameters_all table [] = refl
  parameters_all table (parameter ∷ rest) = parameters_all (with_entry table parameter.name.name (parameter_symbol enums parameter)) rest

  parameter_names_are : (written : List RawParameter) → entry_names (parameter_entries written) ≡ written_names written
  parameter_names_are [] = refl
  parameter_names_are (parameter ∷ rest) = ap (λ (names : List (List ℕ)). parameter.name.name ∷ names) (parameter_names_are rest)

  parameter_values_are : (written : List RawParameter) → entry_values (parameter_entries written) ≡ written_symbols written
  parameter_values_are [] = refl
  parameter_values_are (parameter ∷ rest) = ap (λ (values : List ParameterSymbol). parameter_symbol enums parameter ∷ values) (parameter_values_are rest)

  pub parameter_table : (written : List RawParameter) → are_distinct (written_names written) ≡ true → (parameters_from enums no_entries written).values ≡ written_symbols written
  parameter_table written distinct =
      ap (λ (table : NameTable ParameterSymbol). table.values) (parameters_all no_entries written)
      ∙ (table_of (parameter_entries written) (written_names written) (written_symbols written) (parameter_names_are written) (parameter_values_are written) distinct).values_are
