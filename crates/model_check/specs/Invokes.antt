-- Starts of activities: what is wrong with one, and its arguments in the order of the parameters.
use Rattle.std.specs.Prelude.{ℕ, ◌+◌, ◌||◌, Bool, false, not, List, [], ◌∷◌, ◌++◌, Option, Some, None, is_some, nat_eq, if◌then◌else◌}
use Rattle.aerie_base.specs.declared.expressions.Expr.{Expr}
use Rattle.aerie_base.specs.declared.expressions.Expr as expr
use Rattle.aerie_base.specs.declared.places.Place.{Place}
use Rattle.aerie_base.specs.declared.values.Kind.{Kind}
use Rattle.aerie_base.specs.declared.values.Value.{Value}
use Rattle.aerie_base.specs.declared.values.Value.TheVariants as value
use Rattle.model_reader.specs.declared.raw.expressions.RawExpr.{RawExpr}
use Rattle.model_reader.specs.declared.raw.invokes.RawInvoke.{RawInvoke}
use Rattle.model_reader.specs.declared.raw.names.RawName.{RawName}
use Rattle.model_check.specs.declared.causes.Cause.TheVariants.{Unknown, Duplicate, WrongType}
use Rattle.diagnostics.specs.declared.diagnostic.Diagnostic.{Diagnostic}
use Rattle.model_check.specs.declared.causes.Cause.{Cause}
use Rattle.model_check.specs.declared.scopes.BodyScope.{BodyScope}
use Rattle.model_check.specs.declared.symbols.ParameterSymbol.{ParameterSymbol}
use Rattle.model_check.specs.declared.symbols.ResultSymbol.{ResultSymbol}
use Rattle.model_check.specs.declared.symbols.Symbols.{Symbols}
use Rattle.model_check.specs.declared.symbols.TypeSymbol.{TypeSymbol}
use Rattle.model_check.specs.declared.tables.NameTable.{NameTable}
use Rattle.diagnostics.specs.Diagnostics.{at_place, refused_unless}
use Rattle.model_check.specs.Expressions.{raw_kind, expr_diagnostics, expr_of}
use Rattle.diagnostics.specs.ShortNumbers.{short}
use Rattle.model_check.specs.Literals.{mismatch}
use Rattle.diagnostics.specs.NameLists.{name_number}
use Rattle.model_check.specs.NameTables.{entry_in}

abbrev pub NamedArgument : Type 0
NamedArgument = RawName × RawExpr

abbrev pub Parameters : Type 0
Parameters = NameTable ParameterSymbol

-- ---- which argument is a parameter's

abbrev pub is_this_number : ℕ → Option ℕ → Bool
is_this_number number None = false
is_this_number number (Some other) = nat_eq number other

-- the value that the parameter of this number is given: that of the first argument of its name
abbrev pub given_value : Parameters → ℕ → List NamedArgument → Option RawExpr
given_value parameters number [] = None
given_value parameters number (argument ∷ rest) =
    if is_this_number number (name_number argument.0.name parameters.names) then Some argument.1 else given_value parameters number rest

-- ---- what is wrong

abbrev pub parameter_kind : Option (ℕ × ParameterSymbol) → Option Kind
parameter_kind None = None
parameter_kind (Some parameter) = parameter.1.kind

-- an argument has the name of a parameter, which no earlier one has
abbrev pub argument_name_diagnostics : Parameters → List NamedArgument → RawName → Option (ℕ × ParameterSymbol) → List (Diagnostic Cause)
argument_name_diagnostics parameters earlier name None = at_place Unknown name.at
argument_name_diagnostics parameters earlier name (Some parameter) =
    refused_unless (not (is_some (given_value parameters parameter.0 earlier))) Duplicate name.at

abbrev pub argument_diagnostics : Symbols → BodyScope → Parameters → List NamedArgument → NamedArgument → List (Diagnostic Cause)
argument_diagnostics symbols scope parameters earlier argument =
    argument_name_diagnostics parameters earlier argument.0 (entry_in argument.0.name parameters)
    ++ expr_diagnostics symbols scope argument.1
    ++ mismatch argument.1.at (parameter_kind (entry_in argument.0.name parameters)) (raw_kind symbols scope argument.1.what)

-- the arguments behind earlier ones
abbrev pub arguments_diagnostics : Symbols → BodyScope → Parameters → List NamedArgument → List NamedArgument → List (Diagnostic Cause)
arguments_diagnostics symbols scope parameters earlier [] = []
arguments_diagnostics symbols scope parameters earlier (argument ∷ rest) =
    argument_diagnostics symbols scope parameters earlier argument
    ++ arguments_diagnostics symbols scope parameters (earlier ++ argument ∷ []) rest

-- each parameter from this number on is given or has a default
abbrev pub missing_diagnostics : Place → Parameters → List NamedArgument → ℕ → List ParameterSymbol → List (Diagnostic Cause)
missing_diagnostics at parameters arguments number [] = []
missing_diagnostics at parameters arguments number (parameter ∷ rest) =
    refused_unless (is_some parameter.default || is_some (given_value parameters number arguments)) WrongType at
    ++ missing_diagnostics at parameters arguments (number + 1) rest

-- the values of arguments of an activity type that is unknown
abbrev pub values_diagnostics : Symbols → BodyScope → List NamedArgument → List (Diagnostic Cause)
values_diagnostics symbols scope [] = []
values_diagnostics symbols scope (argument ∷ rest) =
    expr_diagnostics symbols scope argument.1 ++ values_diagnostics symbols scope rest

-- arguments of these parameters
abbrev pub known_diagnostics : Symbols → BodyScope → Parameters → RawInvoke → List (Diagnostic Cause)
known_diagnostics symbols scope parameters invoke =
    arguments_diagnostics symbols scope parameters [] invoke.arguments
    ++ missing_diagnostics invoke.name.at parameters invoke.arguments 0 parameters.values

abbrev pub invoked_diagnostics : Symbols → BodyScope → RawInvoke → Option (ℕ × TypeSymbol) → List (Diagnostic Cause)
invoked_diagnostics symbols scope invoke None =
    at_place Unknown invoke.name.at ++ values_diagnostics symbols scope invoke.arguments
invoked_diagnostics symbols scope invoke (Some type) = known_diagnostics symbols scope type.1.parameters invoke

-- what is wrong with the start of an activity
unfoldable pub invoke_diagnostics : Symbols → BodyScope → RawInvoke → List (Diagnostic Cause)
invoke_diagnostics symbols scope invoke = invoked_diagnostics symbols scope invoke (entry_in invoke.name.name symbols.types)

abbrev pub result_wanted : Place → Option (ℕ × TypeSymbol) → List (Diagnostic Cause)
result_wanted at None = []
result_wanted at (Some type) = refused_unless (is_some type.1.result) WrongType at

-- a `let` takes a result, so the activity type has one
abbrev pub result_diagnostics : Symbols → RawInvoke → List (Diagnostic Cause)
result_diagnostics symbols invoke = result_wanted invoke.name.at (entry_in invoke.name.name symbols.types)

-- ---- what is meant

abbrev pub result_symbol_kind : Option ResultSymbol → Option Kind
result_symbol_kind None = None
result_symbol_kind (Some result) = result.kind

abbrev pub type_result_kind : Option (ℕ × TypeSymbol) → Option Kind
type_result_kind None = None
type_result_kind (Some type) = result_symbol_kind type.1.result

-- the type of the result, where it is known
abbrev pub call_kind : Symbols → RawInvoke → Option Kind
call_kind symbols invoke = type_result_kind (entry_in invoke.name.name symbols.types)

abbrev pub type_number : Option (ℕ × TypeSymbol) → ℕ
type_number None = 0
type_number (Some type) = short type.0

-- the number of the activity type
abbrev pub invoked_number : Symbols → RawInvoke → ℕ
invoked_number symbols invoke = type_number (entry_in invoke.name.name symbols.types)

abbrev pub default_expr : Option Value → Expr
default_expr None = expr.Literal (value.Truth false)
default_expr (Some value) = expr.Literal value

-- the value that is given, or else the default
abbrev pub argument_expr : Symbols → BodyScope → ParameterSymbol → Option RawExpr → Expr
argument_expr symbols scope parameter None = default_expr parameter.default
argument_expr symbols scope parameter (Some raw) = expr_of symbols scope raw

abbrev pub filled_arguments : Symbols → BodyScope → Parameters → List NamedArgument → ℕ → List ParameterSymbol → List Expr
filled_arguments symbols scope parameters arguments number [] = []
filled_arguments symbols scope parameters arguments number (parameter ∷ rest) =
    argument_expr symbols scope parameter (given_value parameters number arguments)
    ∷ filled_arguments symbols scope parameters arguments (number + 1) rest

abbrev pub invoked_arguments : Symbols → BodyScope → RawInvoke → Option (ℕ × TypeSymbol) → List Expr
invoked_arguments symbols scope invoke None = []
invoked_arguments symbols scope invoke (Some type) =
    filled_arguments symbols scope type.1.parameters invoke.arguments 0 type.1.parameters.values

-- the arguments in the order of the parameters
unfoldable pub invoke_arguments : Symbols → BodyScope → RawInvoke → List Expr
invoke_arguments symbols scope invoke = invoked_arguments symbols scope invoke (entry_in invoke.name.name symbols.types)
