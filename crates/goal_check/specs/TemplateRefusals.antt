-- What is refused of the template of a goal: an activity type and its arguments. What stands behind an argument that is refused
-- is not judged: it stands later in the text.
use Rattle.std.specs.Prelude.{ℕ, Bool, true, ◌||◌, not, List, [], ◌∷◌, ◌++◌, Option, Some, None, is_some, slice_get, take, drop}
use Rattle.std.specs.List.{list_all, list_any}
use Rattle.aerie_base.specs.declared.models.Activity.{Activity}
use Rattle.aerie_base.specs.declared.models.Parameter.{Parameter}
use Rattle.aerie_base.specs.declared.models.model.Parts.{Parts}
use Rattle.aerie_base.specs.declared.values.Kind.{Kind}
use Rattle.aerie_base.specs.expressions.Typing.{same_kind}
use Rattle.aerie_base.specs.models.Names.{same_name}
use Rattle.model_reader.specs.declared.raw.literals.RawLiteral.{RawLiteral}
use Rattle.model_reader.specs.declared.raw.names.RawName.{RawName}
use Rattle.plan_edit.specs.Requires.{unmet_of_type}
use Rattle.rule_grammar.specs.declared.raw.goals.RawTemplate.{RawTemplate}
use Rattle.diagnostics.specs.declared.diagnostic.Diagnostic.{Diagnostic}
use Rattle.rule_check.specs.declared.causes.WrongRule.{WrongRule}
use Rattle.rule_check.specs.declared.causes.WrongRule.TheVariants.{Unknown, Duplicate, WrongType, Invalid}
use Rattle.diagnostics.specs.Diagnostics.{at_place, refused_unless}
use Rattle.rule_check.specs.Refusals.{refusals_or}
use Rattle.rule_check.specs.RuleLiterals.{activity_named, known_parameter, refusals_of_literal, literal_kind}
use Rattle.goals.specs.declared.types.Template.{Template}
use Rattle.goal_check.specs.TemplateMeaning.{Argument, meant_template}

-- ---- arguments

-- whether one of some arguments has the name
abbrev pub has_argument : List Argument → List ℕ → Bool
has_argument arguments name = list_any (λ (argument : Argument). same_name argument.0.name name) arguments

-- whether a type is this one; what is unknown has no type, and may be
abbrev pub is_kind_if_known : Option Kind → Kind → Bool
is_kind_if_known None kind = true
is_kind_if_known (Some found) kind = same_kind found kind

-- the name of a parameter, where it is known, and a value beside it
abbrev pub refusals_of_value : Parts → RawName → RawLiteral → Option Parameter → List (Diagnostic WrongRule)
refusals_of_value model name value None = at_place Unknown name.at
refusals_of_value model name value (Some parameter) = refused_unless (is_kind_if_known (literal_kind model value.what) parameter.kind) WrongType name.at

-- an argument behind others
abbrev pub refusals_of_argument : Parts → List Parameter → List Argument → Argument → List (Diagnostic WrongRule)
refusals_of_argument model parameters others argument =
    refused_unless (not (has_argument others argument.0.name)) Duplicate argument.0.at
    ++ refusals_of_value model argument.0 argument.1 (known_parameter parameters argument.0.name)
    ++ refusals_of_literal model argument.1.what

-- arguments behind others, up to the first that is refused
abbrev pub refusals_of_arguments : Parts → List Parameter → List Argument → List Argument → List (Diagnostic WrongRule)
refusals_of_arguments model parameters others [] = []
refusals_of_arguments model parameters others (argument ∷ rest) =
    refusals_or (refusals_of_argument model parameters others argument) (refusals_of_arguments model parameters (others ++ argument ∷ []) rest)

-- the arguments from this number on
abbrev pub refusals_of_arguments_from : Parts → List Parameter → ℕ → List Argument → List (Diagnostic WrongRule)
refusals_of_arguments_from model parameters at arguments = refusals_of_arguments model parameters (take at arguments) (drop at arguments)

-- ---- templates

-- whether a parameter has an argument or a default
abbrev pub is_given_or_default : List Argument → Parameter → Bool
is_given_or_default arguments parameter = is_some parameter.default || has_argument arguments parameter.name

-- what is given for a type
abbrev pub refusals_of_given : Parts → Activity → RawTemplate → List (Diagnostic WrongRule)
refusals_of_given model activity template =
    refused_unless (list_all (is_given_or_default template.arguments) activity.parameters) WrongType template.kind.at
    ++ refusals_of_arguments model activity.parameters [] template.arguments

-- arguments that do not meet a `require` of their type
abbrev pub refusals_of_requires : Parts → RawName → Template → List (Diagnostic WrongRule)
refusals_of_requires model kind template =
    refused_unless (not (is_some (unmet_of_type (slice_get model.activities template.kind) template.arguments))) Invalid kind.at

-- the same of what the template means
abbrev pub refusals_of_meant : Parts → RawTemplate → List (Diagnostic WrongRule)
refusals_of_meant model template = refusals_of_requires model template.kind (meant_template model template)

-- for a type, where it is known; only what is given well is judged by the `require`s
abbrev pub refusals_by_type : Parts → RawTemplate → Option Activity → List (Diagnostic WrongRule)
refusals_by_type model template None = at_place Unknown template.kind.at
refusals_by_type model template (Some activity) =
    refusals_or (refusals_of_given model activity template) (refusals_of_meant model template)

abbrev pub refusals_of_template : Parts → RawTemplate → List (Diagnostic WrongRule)
refusals_of_template model template = refusals_by_type model template (activity_named model template.kind.name)
