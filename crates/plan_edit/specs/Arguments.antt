-- The values of a directive's arguments, of those that are given.
use Rattle.std.specs.Prelude.{ℕ, Bool, ◌||◌, not, List, [], ◌∷◌, ◌++◌, position, find, Option, Some, None, option_map, option_and_then, is_some, slice_get, Result, Ok, Err, if◌then◌else◌}
use Rattle.std.specs.List.{list_any}
use Rattle.aerie_base.specs.Ranges.{checked_number}
use Rattle.aerie_base.specs.declared.values.Kind.{Kind}
use Rattle.aerie_base.specs.declared.values.Kind.TheVariants.{Int, Truth, Enum}
use Rattle.aerie_base.specs.declared.values.Value.{Value}
use Rattle.aerie_base.specs.declared.values.Value.TheVariants as value
use Rattle.aerie_base.specs.declared.arguments.RawValue.{RawValue}
use Rattle.aerie_base.specs.declared.arguments.RawValue.TheVariants as raw
use Rattle.aerie_base.specs.declared.arguments.RawArgument.{RawArgument}
use Rattle.aerie_base.specs.declared.models.EnumType.{EnumType}
use Rattle.aerie_base.specs.declared.models.Parameter.{Parameter}
use Rattle.aerie_base.specs.models.Names.{same_name}
use Rattle.plan_edit.specs.declared.errors.EditError.{EditError}
use Rattle.plan_edit.specs.declared.errors.EditError.TheVariants.{BadArgument}

-- ---- one value

-- a variant as it is written: the enumeration's name, a dot and the variant's name
abbrev pub written_variant : EnumType → List ℕ → List ℕ
written_variant enum variant = enum.name ++ 46 ∷ variant

-- the number of the variant that a word writes
abbrev pub variant_written : Option EnumType → List ℕ → Option ℕ
variant_written None word = None
variant_written (Some enum) word = position (λ variant. same_name (written_variant enum variant) word) enum.variants

-- the value of a type that is given so, where it is of that type
abbrev pub value_given : List EnumType → Kind → RawValue → Option Value
value_given enums Int (raw.Int number) = option_map value.Int (checked_number number)
value_given enums Int (raw.Truth truth) = None
value_given enums Int (raw.Word word) = None
value_given enums Truth (raw.Int number) = None
value_given enums Truth (raw.Truth truth) = Some (value.Truth truth)
value_given enums Truth (raw.Word word) = None
value_given enums (Enum kind) (raw.Int number) = None
value_given enums (Enum kind) (raw.Truth truth) = None
value_given enums (Enum kind) (raw.Word word) = option_map (value.Variant kind) (variant_written (slice_get enums kind) word)

-- ---- the parameter of an argument

-- the position of the parameter with a name
abbrev pub parameter_position : List Parameter → List ℕ → Option ℕ
parameter_position parameters name = position (λ parameter. same_name parameter.name name) parameters

-- a value for the parameter, where there is one and the value is of its type
abbrev pub value_for_parameter : List EnumType → Option Parameter → RawValue → Option Value
value_for_parameter enums None given = None
value_for_parameter enums (Some parameter) given = value_given enums parameter.kind given

-- the value that is given for the parameter with a name, where there is one and the value is of its type
abbrev pub value_for : List EnumType → List Parameter → List ℕ → RawValue → Option Value
value_for enums parameters name given =
    value_for_parameter enums (option_and_then (slice_get parameters) (parameter_position parameters name)) given

-- ---- the first bad argument

-- whether one of some arguments has the name
abbrev pub is_given : List RawArgument → List ℕ → Bool
is_given arguments name = list_any (λ argument. same_name name argument.name) arguments

-- whether an argument is given before, names no parameter or is not of the parameter's type
abbrev pub is_bad : List EnumType → List Parameter → List RawArgument → RawArgument → Bool
is_bad enums parameters before argument =
    is_given before argument.name || not (is_some (value_for enums parameters argument.name argument.value))

-- the name of the first bad one of some arguments, behind others
abbrev pub first_bad : List EnumType → List Parameter → List RawArgument → List RawArgument → Option (List ℕ)
first_bad enums parameters before [] = None
first_bad enums parameters before (argument ∷ rest) =
    if is_bad enums parameters before argument then Some argument.name
    else first_bad enums parameters (before ++ argument ∷ []) rest

-- ---- a value for each parameter

-- the value that an argument gives a parameter, or else the parameter's default
abbrev pub value_or_default : List EnumType → Parameter → Option RawArgument → Option Value
value_or_default enums parameter None = parameter.default
value_or_default enums parameter (Some argument) = value_given enums parameter.kind argument.value

-- the value of a parameter, where it is given or has a default
abbrev pub parameter_value : List EnumType → List RawArgument → Parameter → Option Value
parameter_value enums arguments parameter =
    value_or_default enums parameter (find (λ argument. same_name argument.name parameter.name) arguments)

-- a value in front, or that it is missing
abbrev pub value_in_front : List ℕ → Result (List Value) EditError → Option Value → Result (List Value) EditError
value_in_front name rest None = Err (BadArgument name)
value_in_front name (Ok values) (Some value) = Ok (value ∷ values)
value_in_front name (Err refusal) (Some value) = Err refusal

-- a value for each parameter, or the first that has none
abbrev pub values_filled : List EnumType → List RawArgument → List Parameter → Result (List Value) EditError
values_filled enums arguments [] = Ok []
values_filled enums arguments (parameter ∷ rest) =
    value_in_front parameter.name (values_filled enums arguments rest) (parameter_value enums arguments parameter)

abbrev pub unless_bad : {A : Type 0} → Option (List ℕ) → Result A EditError → Result A EditError
unless_bad None made = made
unless_bad (Some name) made = Err (BadArgument name)

-- a value for each parameter of the arguments that are given, or BadArgument: of the first bad one, or else of the first
-- parameter without a default that is not given
abbrev pub arguments_of : List EnumType → List Parameter → List RawArgument → Result (List Value) EditError
arguments_of enums parameters arguments =
    unless_bad (first_bad enums parameters [] arguments) (values_filled enums arguments parameters)
