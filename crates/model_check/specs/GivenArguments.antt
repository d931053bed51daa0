-- What was given of arguments so far: for each parameter its value, where it has one.
use Rattle.std.specs.Prelude.{ℕ, ◌||◌, not, List, [], ◌∷◌, ◌++◌, Option, Some, None, is_some, slice_index_or, slice_set, if◌then◌else◌}
use Rattle.aerie_base.specs.declared.expressions.Expr.{Expr}
use Rattle.aerie_base.specs.declared.places.Place.{Place}
use Rattle.model_reader.specs.declared.raw.names.RawName.{RawName}
use Rattle.model_check.specs.declared.causes.Cause.TheVariants.{Unknown, Duplicate, WrongType}
use Rattle.diagnostics.specs.declared.diagnostic.Diagnostic.{Diagnostic}
use Rattle.model_check.specs.declared.causes.Cause.{Cause}
use Rattle.model_check.specs.declared.scopes.BodyScope.{BodyScope}
use Rattle.model_check.specs.declared.symbols.ParameterSymbol.{ParameterSymbol}
use Rattle.model_check.specs.declared.symbols.Symbols.{Symbols}
use Rattle.diagnostics.specs.Diagnostics.{at_place, refused_unless}
use Rattle.model_check.specs.Expressions.{raw_kind, expr_diagnostics, expr_of}
use Rattle.model_check.specs.Invokes.{NamedArgument, Parameters, default_expr, parameter_kind}
use Rattle.model_check.specs.Literals.{mismatch}
use Rattle.model_check.specs.NameTables.{entry_in}

-- a place for each parameter
abbrev pub GivenValues : Type 0
GivenValues = List (Option Expr)

-- the value at a place, where there is one
abbrev pub slot_given : GivenValues → ℕ → Option Expr
slot_given given number = slice_index_or given number None

-- a place keeps the value that it has
abbrev pub put_given : GivenValues → ℕ → Expr → GivenValues
put_given given number value = if is_some (slot_given given number) then given else slice_set given number (Some value)

abbrev pub put_found : GivenValues → Option (ℕ × ParameterSymbol) → Expr → GivenValues
put_found given None value = given
put_found given (Some parameter) value = put_given given parameter.0 value

-- the places behind one more argument
abbrev pub given_with : Symbols → BodyScope → Parameters → GivenValues → NamedArgument → GivenValues
given_with symbols scope parameters given argument =
    put_found given (entry_in argument.0.name parameters) (expr_of symbols scope argument.1)

abbrev pub given_with_all : Symbols → BodyScope → Parameters → GivenValues → List NamedArgument → GivenValues
given_with_all symbols scope parameters given [] = given
given_with_all symbols scope parameters given (argument ∷ rest) =
    given_with_all symbols scope parameters (given_with symbols scope parameters given argument) rest

-- what is wrong with the name of one more argument
abbrev pub name_found : GivenValues → RawName → Option (ℕ × ParameterSymbol) → List (Diagnostic Cause)
name_found given name None = at_place Unknown name.at
name_found given name (Some parameter) = refused_unless (not (is_some (slot_given given parameter.0))) Duplicate name.at

abbrev pub argument_found : Symbols → BodyScope → Parameters → GivenValues → NamedArgument → List (Diagnostic Cause)
argument_found symbols scope parameters given argument =
    name_found given argument.0 (entry_in argument.0.name parameters)
    ++ expr_diagnostics symbols scope argument.1
    ++ mismatch argument.1.at (parameter_kind (entry_in argument.0.name parameters)) (raw_kind symbols scope argument.1.what)

abbrev pub arguments_found : Symbols → BodyScope → Parameters → GivenValues → List NamedArgument → List (Diagnostic Cause)
arguments_found symbols scope parameters given [] = []
arguments_found symbols scope parameters given (argument ∷ rest) =
    argument_found symbols scope parameters given argument
    ++ arguments_found symbols scope parameters (given_with symbols scope parameters given argument) rest

-- a place without a value, whose parameter has no default
abbrev pub missing_found : Place → List ParameterSymbol → GivenValues → List (Diagnostic Cause)
missing_found at [] given = []
missing_found at (parameter ∷ rest) [] = []
missing_found at (parameter ∷ rest) (value ∷ values) =
    refused_unless (is_some parameter.default || is_some value) WrongType at ++ missing_found at rest values

-- the value that is given, or else the default
abbrev pub given_or_default : ParameterSymbol → Option Expr → Expr
given_or_default parameter None = default_expr parameter.default
given_or_default parameter (Some value) = value

abbrev pub filled_values : List ParameterSymbol → GivenValues → List Expr
filled_values [] given = []
filled_values (parameter ∷ rest) [] = []
filled_values (parameter ∷ rest) (value ∷ values) = given_or_default parameter value ∷ filled_values rest values
