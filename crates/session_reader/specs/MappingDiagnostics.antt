-- What is wrong with the mappings of a session.
use Rattle.std.specs.Prelude.{◌&&◌, ◌||◌, Bool, true, not, List, [], ◌∷◌, ◌++◌, Option, Some, None, is_some, map}
use Rattle.std.specs.List.{list_all, list_any}
use Rattle.aerie_base.specs.declared.models.Activity.{Activity}
use Rattle.aerie_base.specs.declared.models.EnumType.{EnumType}
use Rattle.aerie_base.specs.declared.models.Parameter.{Parameter}
use Rattle.aerie_base.specs.declared.models.model.Parts.{Parts}
use Rattle.aerie_base.specs.declared.values.Kind.{Kind}
use Rattle.aerie_base.specs.expressions.Typing.{same_kind}
use Rattle.aerie_base.specs.models.Names.{same_name}
use Rattle.plan_edit.specs.Arguments.{parameter_position}
use Rattle.plan_edit.specs.Editing.{type_position}
use Rattle.plan_edit.specs.Mappings.{may_feed}
use Rattle.session_grammar.specs.declared.raw.mappings.RawFeed.{RawFeed}
use Rattle.session_grammar.specs.declared.raw.mappings.RawFeedValue.{RawFeedValue}
use Rattle.session_grammar.specs.declared.raw.mappings.RawFeedValue.TheVariants as feed
use Rattle.session_grammar.specs.declared.raw.mappings.RawMapping.{RawMapping}
use Rattle.session_grammar.specs.declared.raw.mappings.RawTypeRule.{RawTypeRule}
use Rattle.session_reader.specs.declared.causes.Cause.TheVariants.{Unknown, Duplicate, WrongType}
use Rattle.diagnostics.specs.declared.diagnostic.Diagnostic.{Diagnostic}
use Rattle.session_reader.specs.declared.causes.Cause.{Cause}
use Rattle.diagnostics.specs.Diagnostics.{at_place, refused_unless, all_of}
use Rattle.session_reader.specs.KnownParts.{model_position, model_named, type_named, parameter_named}
use Rattle.session_reader.specs.Literals.{literal_kind, literal_diagnostics}
use Rattle.session_reader.specs.RepeatedNames.{repeated_diagnostics}

-- ---- a feed

-- a name in the value is known: a parameter of the old type, or an enumeration of the new model and its variant
abbrev pub value_diagnostics : Parts → Activity → RawFeedValue → List (Diagnostic Cause)
value_diagnostics new from (feed.Parameter name) =
    refused_unless (is_some (parameter_position from.parameters name.name)) Unknown name.at
value_diagnostics new from (feed.Literal literal) = literal_diagnostics new.enums literal.what

abbrev pub may_feed_if_known : List EnumType → List EnumType → Option Parameter → Kind → Bool
may_feed_if_known old new None kind = true
may_feed_if_known old new (Some parameter) kind = may_feed old new parameter.kind kind

abbrev pub same_if_known : Option Kind → Kind → Bool
same_if_known None kind = true
same_if_known (Some found) kind = same_kind found kind

-- whether the value may feed a parameter of a type; what is unknown has no type, and may
abbrev pub value_fits : Parts → Parts → Activity → Kind → RawFeedValue → Bool
value_fits old new from kind (feed.Parameter name) =
    may_feed_if_known old.enums new.enums (parameter_named from.parameters name.name) kind
value_fits old new from kind (feed.Literal literal) = same_if_known (literal_kind new.enums literal.what) kind

abbrev pub parameter_diagnostics : Parts → Parts → Activity → RawFeed → Option Parameter → List (Diagnostic Cause)
parameter_diagnostics old new from raw None = at_place Unknown raw.parameter.at
parameter_diagnostics old new from raw (Some parameter) =
    refused_unless (value_fits old new from parameter.kind raw.value) WrongType raw.parameter.at

-- the parameter is one of the new type, and the value one for it
abbrev pub feed_diagnostics : Parts → Parts → Activity → Activity → RawFeed → List (Diagnostic Cause)
feed_diagnostics old new from to raw =
    parameter_diagnostics old new from raw (parameter_named to.parameters raw.parameter.name)
    ++ value_diagnostics new from raw.value

-- ---- a rule

-- whether a parameter has a feed or a default
abbrev pub gets_a_value : List RawFeed → Parameter → Bool
gets_a_value feeds parameter =
    is_some parameter.default || list_any (λ raw. same_name raw.parameter.name parameter.name) feeds

-- between an old and a new type: each parameter gets a value, no feed is given twice, and each is one of the new type
abbrev pub feeds_diagnostics : Parts → Parts → RawTypeRule → Activity → Activity → List (Diagnostic Cause)
feeds_diagnostics old new rule from to =
    refused_unless (list_all (gets_a_value rule.feeds) to.parameters) WrongType rule.new.at
    ++ repeated_diagnostics [] (map (λ raw. raw.parameter) rule.feeds)
    ++ all_of (feed_diagnostics old new from to) rule.feeds

abbrev pub between_diagnostics : Parts → Parts → RawTypeRule → Option Activity → Option Activity → List (Diagnostic Cause)
between_diagnostics old new rule None to = []
between_diagnostics old new rule (Some from) None = []
between_diagnostics old new rule (Some from) (Some to) = feeds_diagnostics old new rule from to

-- the types are of the old and the new model
abbrev pub rule_diagnostics : Parts → Parts → RawTypeRule → List (Diagnostic Cause)
rule_diagnostics old new rule =
    refused_unless (is_some (type_position old rule.old.name)) Unknown rule.old.at
    ++ refused_unless (is_some (type_position new rule.new.name)) Unknown rule.new.at
    ++ between_diagnostics old new rule (type_named old rule.old.name) (type_named new rule.new.name)

-- ---- mappings

-- between two models: no old type has two rules
abbrev pub rules_diagnostics : Parts → Parts → List RawTypeRule → List (Diagnostic Cause)
rules_diagnostics old new rules =
    repeated_diagnostics [] (map (λ rule. rule.old) rules) ++ all_of (rule_diagnostics old new) rules

abbrev pub among_diagnostics : List RawTypeRule → Option Parts → Option Parts → List (Diagnostic Cause)
among_diagnostics rules None new = []
among_diagnostics rules (Some old) None = []
among_diagnostics rules (Some old) (Some new) = rules_diagnostics old new rules

abbrev pub mapping_diagnostics : List Parts → RawMapping → List (Diagnostic Cause)
mapping_diagnostics models mapping =
    refused_unless (is_some (model_position models mapping.from.name)) Unknown mapping.from.at
    ++ refused_unless (is_some (model_position models mapping.to.name)) Unknown mapping.to.at
    ++ among_diagnostics mapping.rules (model_named models mapping.from.name) (model_named models mapping.to.name)

-- whether two mappings are between the same models
abbrev pub same_models : RawMapping → RawMapping → Bool
same_models mapping other = same_name mapping.from.name other.from.name && same_name mapping.to.name other.to.name

-- a mapping between the models of an earlier one, at the first of its names
abbrev pub repeated_mappings : List RawMapping → List RawMapping → List (Diagnostic Cause)
repeated_mappings earlier [] = []
repeated_mappings earlier (mapping ∷ rest) =
    refused_unless (not (list_any (same_models mapping) earlier)) Duplicate mapping.from.at
    ++ repeated_mappings (earlier ++ mapping ∷ []) rest

abbrev pub mappings_diagnostics : List Parts → List RawMapping → List (Diagnostic Cause)
mappings_diagnostics models mappings = repeated_mappings [] mappings ++ all_of (mapping_diagnostics models) mappings
