-- The template that is meant by one that is written. Of what is refused this is never used.
use Rattle.std.specs.Prelude.{ℕ, false, List, Option, Some, None, map, find}
use Rattle.aerie_base.specs.declared.models.Parameter.{Parameter}
use Rattle.aerie_base.specs.declared.models.model.Parts.{Parts}
use Rattle.aerie_base.specs.declared.values.Value.{Value}
use Rattle.aerie_base.specs.declared.values.Value.TheVariants as value
use Rattle.aerie_base.specs.models.Names.{same_name}
use Rattle.model_reader.specs.declared.raw.literals.RawLiteral.{RawLiteral}
use Rattle.model_reader.specs.declared.raw.names.RawName.{RawName}
use Rattle.rule_grammar.specs.declared.raw.goals.RawTemplate.{RawTemplate}
use Rattle.rule_check.specs.WindowMeaning.{number_of_type}
use Rattle.rule_check.specs.RuleLiterals.{activity_named, parameters_if_known, literal_value}
use Rattle.goals.specs.declared.types.Template.{Template}

-- an argument: the name of a parameter, and a value
abbrev pub Argument : Type 0
Argument = RawName × RawLiteral

abbrev pub default_or_false : Option Value → Value
default_or_false None = value.Truth false
default_or_false (Some default) = default

-- the value that is given, or else the default
abbrev pub written_or_default : Parts → Parameter → Option Argument → Value
written_or_default model parameter None = default_or_false parameter.default
written_or_default model parameter (Some argument) = literal_value model argument.1.what

-- the argument for a parameter
abbrev pub argument_named : List Argument → List ℕ → Option Argument
argument_named arguments name = find (λ argument. same_name argument.0.name name) arguments

abbrev pub template_value : Parts → List Argument → Parameter → Value
template_value model arguments parameter = written_or_default model parameter (argument_named arguments parameter.name)

abbrev pub meant_template : Parts → RawTemplate → Template
meant_template model template = record {
  kind = number_of_type model template.kind;
  arguments = map (template_value model template.arguments) (parameters_if_known (activity_named model template.kind.name));
}
