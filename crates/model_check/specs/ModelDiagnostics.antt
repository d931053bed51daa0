-- What is wrong with a model, declaration by declaration, and what of it comes first.
use Rattle.std.specs.Prelude.{ℕ, Bool, true, false, not, List, [], ◌∷◌, ◌++◌, Option, Some, None}
use Rattle.aerie_base.specs.Ranges.{is_rate}
use Rattle.aerie_base.specs.declared.places.Place.{Place}
use Rattle.aerie_base.specs.declared.values.Kind.TheVariants.{Truth}
use Rattle.aerie_base.specs.models.Names.{is_name_among}
use Rattle.model_reader.specs.declared.raw.expressions.RawExpr.{RawExpr}
use Rattle.model_reader.specs.declared.raw.items.RawItem.{RawItem}
use Rattle.model_reader.specs.declared.raw.items.RawItem.TheVariants as item
use Rattle.model_reader.specs.declared.raw.items.RawParameter.{RawParameter}
use Rattle.model_reader.specs.declared.raw.literals.RawLiteral.{RawLiteral}
use Rattle.model_reader.specs.declared.raw.literals.RawLiteralKind.{RawLiteralKind}
use Rattle.model_reader.specs.declared.raw.literals.RawLiteralKind.TheVariants as literal
use Rattle.model_reader.specs.declared.raw.models.RawModel.{RawModel}
use Rattle.model_reader.specs.declared.raw.names.RawName.{RawName}
use Rattle.model_reader.specs.declared.raw.reads.RawPart.{RawPart}
use Rattle.model_reader.specs.declared.raw.reads.RawPart.TheVariants.{Whole, Volume, Rate, Conflicted}
use Rattle.model_reader.specs.declared.raw.reads.RawRead.{RawRead}
use Rattle.model_reader.specs.declared.raw.statements.RawStmt.{RawStmt}
use Rattle.model_reader.specs.declared.raw.statements.RawStmtKind.{RawStmtKind, Return}
use Rattle.model_reader.specs.declared.raw.types.RawType.{RawType}
use Rattle.model_check.specs.declared.causes.Cause.TheVariants.{Duplicate, WrongType, OutOfRange}
use Rattle.diagnostics.specs.declared.diagnostic.Diagnostic.{Diagnostic}
use Rattle.model_check.specs.declared.causes.Cause.{Cause}
use Rattle.model_check.specs.declared.leaves.FormUse.TheVariants.{Resource}
use Rattle.model_check.specs.declared.scopes.BodyScope.{BodyScope}
use Rattle.model_check.specs.declared.symbols.Symbols.{Symbols}
use Rattle.model_check.specs.BodyScopes.{empty_scope, with_new_local, local_diagnostics}
use Rattle.model_check.specs.CellReads.{FoundCell, read_diagnostics}
use Rattle.diagnostics.specs.Diagnostics.{at_place, refused_unless}
use Rattle.model_check.specs.Diagnostics.{first_diagnostic}
use Rattle.model_check.specs.Expressions.{expr_diagnostics, typed_diagnostics}
use Rattle.model_check.specs.LinearForms.{form_diagnostics}
use Rattle.model_check.specs.Literals.{mismatch, literal_kind, literal_diagnostics}
use Rattle.model_check.specs.ModelSymbols.{type_kind, type_diagnostics, result_symbol, symbols_of, bare_symbols}
use Rattle.diagnostics.specs.RepeatedNames.{repeated_by}
use Rattle.model_check.specs.NameTables.{entry_in}
use Rattle.model_check.specs.Statements.{block_diagnostics}

-- ---- names

-- names that are those of earlier ones
abbrev pub repeated_diagnostics : List (List ℕ) → List RawName → List (Diagnostic Cause)
repeated_diagnostics = repeated_by (λ (name : RawName). name.name) (λ (name : RawName). name.at) Duplicate

-- the names of enumerations, cells and activity types, which have to differ
abbrev pub shared_name : RawItem → List RawName
shared_name (item.Enum name variants) = name ∷ []
shared_name (item.Counter name start) = name ∷ []
shared_name (item.Register name kind start) = name ∷ []
shared_name (item.Accumulator name volume rate) = name ∷ []
shared_name (item.Activity name parameters result requires_ body) = name ∷ []
shared_name (item.Discrete name read) = []
shared_name (item.Linear name sum) = []
shared_name (item.Daemon body) = []

-- and those of resources
abbrev pub resource_name : RawItem → List RawName
resource_name (item.Discrete name read) = name ∷ []
resource_name (item.Linear name sum) = name ∷ []
resource_name _ = []

abbrev pub names_in : (RawItem → List RawName) → List RawItem → List RawName
names_in name_in [] = []
names_in name_in (item ∷ rest) = name_in item ++ names_in name_in rest

-- ---- cells

-- a literal where a type is written
abbrev pub typed_literal_diagnostics : Symbols → RawType → RawLiteral → List (Diagnostic Cause)
typed_literal_diagnostics symbols type literal =
    literal_diagnostics symbols.enums literal.what
    ++ mismatch literal.at (type_kind symbols.enums type) (literal_kind symbols.enums literal.what)

-- an initial rate has its range
abbrev pub rate_diagnostics : Place → RawLiteralKind → List (Diagnostic Cause)
rate_diagnostics at (literal.Number number) = refused_unless (is_rate number) OutOfRange at
rate_diagnostics at (literal.Truth truth) = at_place WrongType at
rate_diagnostics at (literal.Variant kind variant) = at_place WrongType at

-- ---- resources

-- no volume is shown as it is
abbrev pub shown_diagnostics : RawPart → Place → FoundCell → List (Diagnostic Cause)
shown_diagnostics Volume at (Some cell) = at_place WrongType at
shown_diagnostics Volume at None = []
shown_diagnostics Whole at cell = []
shown_diagnostics Rate at cell = []
shown_diagnostics Conflicted at cell = []

abbrev pub discrete_diagnostics : Symbols → RawRead → List (Diagnostic Cause)
discrete_diagnostics symbols read =
    read_diagnostics symbols empty_scope read ++ shown_diagnostics read.part read.name.at (entry_in read.name.name symbols.cells)

abbrev pub linear_diagnostics : Symbols → RawExpr → List (Diagnostic Cause)
linear_diagnostics symbols sum =
    expr_diagnostics symbols empty_scope sum ++ form_diagnostics Resource symbols empty_scope sum

-- ---- activity types

abbrev pub default_diagnostics : Symbols → RawType → Option RawLiteral → List (Diagnostic Cause)
default_diagnostics symbols type None = []
default_diagnostics symbols type (Some literal) = typed_literal_diagnostics symbols type literal

abbrev pub parameter_diagnostics : Symbols → BodyScope → RawParameter → List (Diagnostic Cause)
parameter_diagnostics symbols scope parameter =
    local_diagnostics symbols scope parameter.name
    ++ type_diagnostics symbols.enums parameter.kind
    ++ default_diagnostics symbols parameter.kind parameter.default

-- the scope behind parameters
abbrev pub parameter_scope : Symbols → BodyScope → List RawParameter → BodyScope
parameter_scope symbols scope [] = scope
parameter_scope symbols scope (parameter ∷ rest) =
    parameter_scope symbols (with_new_local scope parameter.name.name (type_kind symbols.enums parameter.kind) true) rest

abbrev pub parameters_diagnostics : Symbols → BodyScope → List RawParameter → List (Diagnostic Cause)
parameters_diagnostics symbols scope [] = []
parameters_diagnostics symbols scope (parameter ∷ rest) =
    parameter_diagnostics symbols scope parameter
    ++ parameters_diagnostics symbols (with_new_local scope parameter.name.name (type_kind symbols.enums parameter.kind) true) rest

abbrev pub result_type_diagnostics : Symbols → Option RawType → List (Diagnostic Cause)
result_type_diagnostics symbols None = []
result_type_diagnostics symbols (Some type) = type_diagnostics symbols.enums type

-- truths over the parameters alone
abbrev pub requires_diagnostics : Symbols → BodyScope → List RawExpr → List (Diagnostic Cause)
requires_diagnostics symbols scope [] = []
requires_diagnostics symbols scope (truth ∷ rest) =
    typed_diagnostics (bare_symbols symbols.enums) scope Truth truth ++ requires_diagnostics symbols scope rest

abbrev pub is_return_kind : RawStmtKind → Bool
is_return_kind (Return value) = true
is_return_kind _ = false

-- whether the last statement is a `return`
abbrev pub returns_at_end : List RawStmt → Bool
returns_at_end [] = false
returns_at_end (stmt ∷ []) = is_return_kind stmt.what
returns_at_end (stmt ∷ next ∷ rest) = returns_at_end (next ∷ rest)

-- an activity type with a result ends with a `return`
abbrev pub end_diagnostics : Place → Option RawType → List RawStmt → List (Diagnostic Cause)
end_diagnostics at None body = []
end_diagnostics at (Some type) body = refused_unless (returns_at_end body) WrongType at

-- what is wrong with an activity type, by the scope behind its parameters
abbrev pub activity_diagnostics_in : Symbols → BodyScope → RawName → List RawParameter → Option RawType → List RawExpr → List RawStmt → List (Diagnostic Cause)
activity_diagnostics_in symbols scope name parameters result requires_ body =
    parameters_diagnostics symbols empty_scope parameters
    ++ result_type_diagnostics symbols result
    ++ requires_diagnostics symbols scope requires_
    ++ block_diagnostics symbols (result_symbol symbols.enums result) body scope
    ++ end_diagnostics name.at result body

-- ---- declarations

abbrev pub item_diagnostics : Symbols → RawItem → List (Diagnostic Cause)
item_diagnostics symbols (item.Enum name variants) = repeated_diagnostics [] variants
item_diagnostics symbols (item.Counter name start) = []
item_diagnostics symbols (item.Register name kind start) =
    type_diagnostics symbols.enums kind ++ typed_literal_diagnostics symbols kind start
item_diagnostics symbols (item.Accumulator name volume rate) = rate_diagnostics rate.at rate.what
item_diagnostics symbols (item.Discrete name read) = discrete_diagnostics symbols read
item_diagnostics symbols (item.Linear name sum) = linear_diagnostics symbols sum
item_diagnostics symbols (item.Activity name parameters result requires_ body) =
    activity_diagnostics_in symbols (parameter_scope symbols empty_scope parameters) name parameters result requires_ body
item_diagnostics symbols (item.Daemon body) = block_diagnostics symbols None body empty_scope

abbrev pub items_diagnostics : Symbols → List RawItem → List (Diagnostic Cause)
items_diagnostics symbols [] = []
items_diagnostics symbols (item ∷ rest) = item_diagnostics symbols item ++ items_diagnostics symbols rest

-- ---- models

-- all that is wrong with a model
unfoldable pub model_diagnostics : RawModel → List (Diagnostic Cause)
model_diagnostics raw =
    repeated_diagnostics [] (names_in shared_name raw.items)
    ++ repeated_diagnostics [] (names_in resource_name raw.items)
    ++ items_diagnostics (symbols_of raw.items) raw.items

-- the first of it, by place and then by number, where there is any
abbrev pub first_refused : RawModel → Option (Diagnostic Cause)
first_refused raw = first_diagnostic (model_diagnostics raw)
