-- What is refused of the rules of a sequence. What stands behind a limit that is passed is not judged, nor the steps for a type
-- that is unknown: they stand later in the text.
use Rattle.std.specs.Prelude.{ℕ, ◌-◌, Bool, true, false, not, List, [], ◌++◌, Option, Some, None, is_some, option_map, take, drop}
use Rattle.std.specs.List.{list_any}
use Rattle.aerie_base.specs.declared.expressions.Comparison.{Comparison}
use Rattle.aerie_base.specs.declared.models.Activity.{Activity}
use Rattle.aerie_base.specs.declared.models.Parameter.{Parameter}
use Rattle.aerie_base.specs.declared.models.model.Parts.{Parts}
use Rattle.aerie_base.specs.declared.places.Place.{Place}
use Rattle.aerie_base.specs.declared.values.Kind.{Kind}
use Rattle.aerie_base.specs.expressions.Typing.{may_compare}
use Rattle.aerie_base.specs.models.Names.{same_name}
use Rattle.model_reader.specs.declared.raw.names.RawName.{RawName}
use Rattle.readers.specs.declared.limits.Limit.TheVariants.{Rules, Steps, Words}
use Rattle.rule_grammar.specs.declared.raw.sequences.RawSendTest.{RawSendTest}
use Rattle.rule_grammar.specs.declared.raw.sequences.RawSequenceItem.{RawSequenceItem}
use Rattle.rule_grammar.specs.declared.raw.sequences.RawSequenceRule.{RawSequenceRule}
use Rattle.rule_grammar.specs.declared.raw.sequences.RawSequenceRule.TheVariants as sequence_rule
use Rattle.rule_grammar.specs.declared.raw.sequences.RawStep.{RawStep}
use Rattle.rule_grammar.specs.declared.raw.sequences.RawWord.{RawWord}
use Rattle.rule_grammar.specs.declared.raw.sequences.RawWordKind.{RawWordKind}
use Rattle.rule_grammar.specs.declared.raw.sequences.RawWordKind.TheVariants as word
use Rattle.diagnostics.specs.declared.diagnostic.Diagnostic.{Diagnostic}
use Rattle.rule_check.specs.declared.causes.WrongRule.{WrongRule}
use Rattle.rule_check.specs.declared.causes.WrongRule.TheVariants.{Unknown, Duplicate, WrongType, TooMany}
use Rattle.diagnostics.specs.Diagnostics.{at_place, refused_unless}
use Rattle.rule_check.specs.Refusals.{refusals_up_to, refusals_in_turn}
use Rattle.rule_check.specs.RuleLiterals.{activity_named, position_of_parameter, known_parameter, refusals_of_literal, literal_kind}
use Rattle.rule_check.specs.WindowRefusals.{refusals_of_type}

-- the most rules of a sequence, `for` and `longer` counted together
abbrev pub most_rules : ℕ
most_rules = 256

-- the most steps of a rule
abbrev pub most_steps : ℕ
most_steps = 64

-- the most words of a step
abbrev pub most_words : ℕ
most_words = 16

-- ---- words

-- the name of a parameter
abbrev pub refusals_of_parameter : List Parameter → RawName → List (Diagnostic WrongRule)
refusals_of_parameter parameters name = refused_unless (is_some (position_of_parameter parameters name.name)) Unknown name.at

-- a word at a place, for an activity type; only a type with a result has one to send
abbrev pub refusals_of_word_kind : Parts → Activity → Place → RawWordKind → List (Diagnostic WrongRule)
refusals_of_word_kind model activity at (word.Literal literal) = refusals_of_literal model literal
refusals_of_word_kind model activity at (word.Parameter name) = refusals_of_parameter activity.parameters name
refusals_of_word_kind model activity at word.SpanResult = refused_unless (is_some activity.result) WrongType at

abbrev pub refusals_of_word : Parts → Activity → RawWord → List (Diagnostic WrongRule)
refusals_of_word model activity word = refusals_of_word_kind model activity word.at word.what

-- one word more than there may be
abbrev pub too_many_words : RawWord → List (Diagnostic WrongRule)
too_many_words word = at_place (TooMany Words) word.at

-- words, of which there may be so many more
abbrev pub refusals_of_words : Parts → Activity → ℕ → List RawWord → List (Diagnostic WrongRule)
refusals_of_words model activity room words = refusals_up_to (refusals_of_word model activity) too_many_words room words

-- ---- tests

-- the orders compare whole numbers, and equality two values of one type; what is unknown has no type, and may be compared
abbrev pub may_be_compared : Comparison → Option Kind → Option Kind → Bool
may_be_compared how None right = true
may_be_compared how (Some left) None = true
may_be_compared how (Some left) (Some right) = may_compare how left right

-- the type of a parameter
abbrev pub kind_of_parameter : List Parameter → List ℕ → Option Kind
kind_of_parameter parameters name = option_map (λ parameter. parameter.kind) (known_parameter parameters name)

-- what stands behind `if`, where it stands there
abbrev pub refusals_of_test : Parts → Activity → Option RawSendTest → List (Diagnostic WrongRule)
refusals_of_test model activity None = []
refusals_of_test model activity (Some test) =
    refusals_of_parameter activity.parameters test.parameter
    ++ refusals_of_literal model test.with.what
    ++ refused_unless (may_be_compared test.how (kind_of_parameter activity.parameters test.parameter.name) (literal_kind model test.with.what)) WrongType
    test.with.at

-- ---- steps

abbrev pub refusals_of_step : Parts → Activity → RawStep → List (Diagnostic WrongRule)
refusals_of_step model activity step = refusals_of_words model activity most_words step.words ++ refusals_of_test model activity step.test

-- one step more than there may be
abbrev pub too_many_steps : RawStep → List (Diagnostic WrongRule)
too_many_steps step = at_place (TooMany Steps) step.at

-- steps, of which there may be so many more
abbrev pub refusals_of_steps : Parts → Activity → ℕ → List RawStep → List (Diagnostic WrongRule)
refusals_of_steps model activity room steps = refusals_up_to (refusals_of_step model activity) too_many_steps room steps

-- the steps for a type, where it is known
abbrev pub refusals_of_type_steps : Parts → Option Activity → List RawStep → List (Diagnostic WrongRule)
refusals_of_type_steps model None steps = []
refusals_of_type_steps model (Some activity) steps = refusals_of_steps model activity most_steps steps

-- ---- rules

-- the rule is one for the type of this name
abbrev pub is_for : List ℕ → RawSequenceRule → Bool
is_for name (sequence_rule.Span kind steps) = same_name kind.name name
is_for name (sequence_rule.Spacing other least) = false

-- the rule is a spacing of commands of this name
abbrev pub is_spacing_of : List ℕ → RawSequenceRule → Bool
is_spacing_of name (sequence_rule.Span kind steps) = false
is_spacing_of name (sequence_rule.Spacing other least) = same_name other.name name

-- a rule behind others
abbrev pub refusals_of_sequence_rule : Parts → List RawSequenceItem → RawSequenceRule → List (Diagnostic WrongRule)
refusals_of_sequence_rule model others (sequence_rule.Span kind steps) =
    refusals_of_type model kind
    ++ refused_unless (not (list_any (λ other. is_for kind.name other.rule) others)) Duplicate kind.at
    ++ refusals_of_type_steps model (activity_named model kind.name) steps
refusals_of_sequence_rule model others (sequence_rule.Spacing name least) =
    refused_unless (not (list_any (λ other. is_spacing_of name.name other.rule) others)) Duplicate name.at

abbrev pub refusals_of_item : Parts → List RawSequenceItem → RawSequenceItem → List (Diagnostic WrongRule)
refusals_of_item model others item = refusals_of_sequence_rule model others item.rule

-- one rule more than there may be
abbrev pub too_many_rules : RawSequenceItem → List (Diagnostic WrongRule)
too_many_rules item = at_place (TooMany Rules) item.at

-- rules behind others, of which there may be so many more
abbrev pub refusals_of_rules : Parts → ℕ → List RawSequenceItem → List RawSequenceItem → List (Diagnostic WrongRule)
refusals_of_rules model room others items = refusals_in_turn (refusals_of_item model) too_many_rules room others items

-- the rules from this number on
abbrev pub refusals_of_rules_from : Parts → ℕ → List RawSequenceItem → List (Diagnostic WrongRule)
refusals_of_rules_from model at rules = refusals_of_rules model (most_rules - at) (take at rules) (drop at rules)

-- what is refused of a sequence
abbrev pub refusals_of_sequence : Parts → List RawSequenceItem → List (Diagnostic WrongRule)
refusals_of_sequence model items = refusals_of_rules model most_rules [] items
