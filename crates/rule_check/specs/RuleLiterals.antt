-- Literals of rules, by the enumerations of a model: what is refused of one, its type and its value.
use Rattle.std.specs.Prelude.{ℕ, List, [], Option, Some, None, is_some, option_map, position, find}
use Rattle.aerie_base.specs.declared.models.Activity.{Activity}
use Rattle.aerie_base.specs.declared.models.Parameter.{Parameter}
use Rattle.aerie_base.specs.declared.models.model.Parts.{Parts}
use Rattle.aerie_base.specs.declared.values.Kind.{Kind}
use Rattle.aerie_base.specs.declared.values.Kind.TheVariants.{Int, Truth, Enum}
use Rattle.aerie_base.specs.declared.values.Value.{Value}
use Rattle.aerie_base.specs.declared.values.Value.TheVariants as value
use Rattle.aerie_base.specs.models.Names.{same_name}
use Rattle.model_reader.specs.declared.raw.literals.RawLiteralKind.{RawLiteralKind}
use Rattle.model_reader.specs.declared.raw.literals.RawLiteralKind.TheVariants as literal
use Rattle.model_reader.specs.declared.raw.names.RawName.{RawName}
use Rattle.diagnostics.specs.declared.diagnostic.Diagnostic.{Diagnostic}
use Rattle.rule_check.specs.declared.causes.WrongRule.{WrongRule}
use Rattle.rule_check.specs.declared.causes.WrongRule.TheVariants.{Unknown}
use Rattle.rule_check.specs.WindowMeaning.{variant_in, number_within}
use Rattle.diagnostics.specs.Diagnostics.{at_place, refused_unless}
use Rattle.diagnostics.specs.ShortNumbers.{short}
use Rattle.rule_check.specs.RuleNames.{position_of_enum, variant_position}

-- ---- parameters

-- the activity type of a name
abbrev pub activity_named : Parts → List ℕ → Option Activity
activity_named model name = find (λ activity. same_name activity.name name) model.activities

-- the position of the parameter of a name
abbrev pub position_of_parameter : List Parameter → List ℕ → Option ℕ
position_of_parameter parameters name = position (λ parameter. same_name parameter.name name) parameters

abbrev pub known_parameter : List Parameter → List ℕ → Option Parameter
known_parameter parameters name = find (λ parameter. same_name parameter.name name) parameters

-- the parameters of a type; one that is unknown has none
abbrev pub parameters_if_known : Option Activity → List Parameter
parameters_if_known None = []
parameters_if_known (Some activity) = activity.parameters

-- ---- what is refused

-- a variant of the enumeration of this position
abbrev pub refusals_of_named_variant : Parts → Option ℕ → RawName → RawName → List (Diagnostic WrongRule)
refusals_of_named_variant model None kind variant = at_place Unknown kind.at
refusals_of_named_variant model (Some number) kind variant =
    refused_unless (is_some (variant_position model.enums number variant.name)) Unknown variant.at

-- its enumeration is unknown, or that has no such variant
abbrev pub refusals_of_literal : Parts → RawLiteralKind → List (Diagnostic WrongRule)
refusals_of_literal model (literal.Number number) = []
refusals_of_literal model (literal.Truth truth) = []
refusals_of_literal model (literal.Variant kind variant) =
    refusals_of_named_variant model (position_of_enum model.enums kind.name) kind variant

-- ---- what is meant

-- the type of a literal: there is none where its enumeration is unknown
abbrev pub literal_kind : Parts → RawLiteralKind → Option Kind
literal_kind model (literal.Number number) = Some Int
literal_kind model (literal.Truth truth) = Some Truth
literal_kind model (literal.Variant kind variant) =
    option_map (λ place. Enum (short place)) (position_of_enum model.enums kind.name)

-- the value of a literal; of one that is refused it is never used
abbrev pub literal_value : Parts → RawLiteralKind → Value
literal_value model (literal.Number number) = value.Int (number_within number)
literal_value model (literal.Truth truth) = value.Truth truth
literal_value model (literal.Variant kind variant) = variant_in model (position_of_enum model.enums kind.name) variant
