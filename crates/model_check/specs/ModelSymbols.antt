-- What the names of a model stand for: its enumerations, its cells and its activity types, which may be used before they are
-- declared. Of several of one sort and name the first counts.
use Rattle.std.specs.Prelude.{ℕ, List, [], ◌∷◌, Option, Some, None, option_map}
use Rattle.aerie_base.specs.declared.values.Kind.{Kind}
use Rattle.aerie_base.specs.declared.values.Kind.TheVariants.{Int, Truth}
use Rattle.aerie_base.specs.declared.values.Value.{Value}
use Rattle.model_reader.specs.declared.raw.items.RawItem.{RawItem}
use Rattle.model_reader.specs.declared.raw.items.RawItem.TheVariants as item
use Rattle.model_reader.specs.declared.raw.items.RawParameter.{RawParameter}
use Rattle.model_reader.specs.declared.raw.literals.RawLiteral.{RawLiteral}
use Rattle.model_reader.specs.declared.raw.names.RawName.{RawName}
use Rattle.model_reader.specs.declared.raw.types.RawType.{RawType}
use Rattle.model_reader.specs.declared.raw.types.RawType.TheVariants as type
use Rattle.model_check.specs.declared.causes.Cause.TheVariants.{Unknown}
use Rattle.diagnostics.specs.declared.diagnostic.Diagnostic.{Diagnostic}
use Rattle.model_check.specs.declared.causes.Cause.{Cause}
use Rattle.model_check.specs.declared.symbols.CellSort.TheVariants as sort
use Rattle.model_check.specs.declared.symbols.CellSymbol.{CellSymbol}
use Rattle.model_check.specs.declared.symbols.EnumSymbol.{EnumSymbol}
use Rattle.model_check.specs.declared.symbols.ParameterSymbol.{ParameterSymbol}
use Rattle.model_check.specs.declared.symbols.ResultSymbol.{ResultSymbol}
use Rattle.model_check.specs.declared.symbols.Symbols.{Symbols}
use Rattle.model_check.specs.declared.symbols.TypeSymbol.{TypeSymbol}
use Rattle.model_check.specs.declared.tables.NameTable.{NameTable}
use Rattle.diagnostics.specs.Diagnostics.{at_place}
use Rattle.model_check.specs.Literals.{enum_kind, literal_value}
use Rattle.diagnostics.specs.NameLists.{with_name}
use Rattle.model_check.specs.NameTables.{no_entries, with_entry, entry_in}

abbrev pub Enums : Type 0
Enums = NameTable EnumSymbol

-- ---- types

-- the type that is written, where its enumeration is known
abbrev pub type_kind : Enums → RawType → Option Kind
type_kind enums type.Int = Some Int
type_kind enums type.Truth = Some Truth
type_kind enums (type.Named name) = option_map enum_kind (entry_in name.name enums)

abbrev pub known_enum : RawName → Option (ℕ × EnumSymbol) → List (Diagnostic Cause)
known_enum name None = at_place Unknown name.at
known_enum name (Some enum) = []

abbrev pub type_diagnostics : Enums → RawType → List (Diagnostic Cause)
type_diagnostics enums type.Int = []
type_diagnostics enums type.Truth = []
type_diagnostics enums (type.Named name) = known_enum name (entry_in name.name enums)

-- ---- enumerations

-- the different ones of these names, behind others
abbrev pub with_names : List (List ℕ) → List RawName → List (List ℕ)
with_names names [] = names
with_names names (name ∷ rest) = with_names (with_name names name.name) rest

abbrev pub with_enum_symbol : Enums → RawItem → Enums
with_enum_symbol table (item.Enum name variants) =
    with_entry table name.name (record { at = name.at; variants = with_names [] variants })
with_enum_symbol table _ = table

abbrev pub enum_symbols_from : Enums → List RawItem → Enums
enum_symbols_from table [] = table
enum_symbols_from table (item ∷ rest) = enum_symbols_from (with_enum_symbol table item) rest

-- ---- cells

abbrev pub with_cell_symbol : Enums → NameTable CellSymbol → RawItem → NameTable CellSymbol
with_cell_symbol enums table (item.Counter name start) = with_entry table name.name (record { at = name.at; sort = sort.Counter })
with_cell_symbol enums table (item.Register name kind start) =
    with_entry table name.name (record { at = name.at; sort = sort.Register (type_kind enums kind) })
with_cell_symbol enums table (item.Accumulator name volume rate) = with_entry table name.name (record { at = name.at; sort = sort.Accumulator })
with_cell_symbol enums table _ = table

abbrev pub cell_symbols_from : Enums → NameTable CellSymbol → List RawItem → NameTable CellSymbol
cell_symbols_from enums table [] = table
cell_symbols_from enums table (item ∷ rest) = cell_symbols_from enums (with_cell_symbol enums table item) rest

-- ---- activity types

abbrev pub default_value : Enums → Option RawLiteral → Option Value
default_value enums None = None
default_value enums (Some literal) = Some (literal_value enums literal.what)

abbrev pub parameter_symbol : Enums → RawParameter → ParameterSymbol
parameter_symbol enums parameter =
    record { kind = type_kind enums parameter.kind; default = default_value enums parameter.default }

abbrev pub parameters_from : Enums → NameTable ParameterSymbol → List RawParameter → NameTable ParameterSymbol
parameters_from enums table [] = table
parameters_from enums table (parameter ∷ rest) =
    parameters_from enums (with_entry table parameter.name.name (parameter_symbol enums parameter)) rest

abbrev pub result_symbol : Enums → Option RawType → Option ResultSymbol
result_symbol enums None = None
result_symbol enums (Some type) = Some (record { kind = type_kind enums type })

abbrev pub with_type_symbol : Enums → NameTable TypeSymbol → RawItem → NameTable TypeSymbol
with_type_symbol enums table (item.Activity name parameters result requires_ body) =
    with_entry table name.name
    (record { parameters = parameters_from enums no_entries parameters; result = result_symbol enums result })
with_type_symbol enums table _ = table

abbrev pub type_symbols_from : Enums → NameTable TypeSymbol → List RawItem → NameTable TypeSymbol
type_symbols_from enums table [] = table
type_symbols_from enums table (item ∷ rest) = type_symbols_from enums (with_type_symbol enums table item) rest

-- ---- all of them

abbrev pub symbols_by : Enums → List RawItem → Symbols
symbols_by enums items =
    record { enums = enums; cells = cell_symbols_from enums no_entries items; types = type_symbols_from enums no_entries items }

-- what the names of a model with these declarations stand for
unfoldable pub symbols_of : List RawItem → Symbols
symbols_of items = symbols_by (enum_symbols_from no_entries items) items

-- the enumerations alone: a `require` names no cell and no activity type
abbrev pub bare_symbols : Enums → Symbols
bare_symbols enums = record { enums = enums; cells = no_entries; types = no_entries }
