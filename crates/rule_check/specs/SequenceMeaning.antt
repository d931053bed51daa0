-- The rules of a sequence that are meant by those that are written. Of what is refused this is never used.
use Rattle.std.specs.Prelude.{ℕ, List, [], ◌∷◌, ◌++◌, map, option_map}
use Rattle.aerie_base.specs.declared.models.Parameter.{Parameter}
use Rattle.aerie_base.specs.declared.models.model.Parts.{Parts}
use Rattle.model_reader.specs.declared.raw.names.RawName.{RawName}
use Rattle.rule_grammar.specs.declared.raw.sequences.RawSendTest.{RawSendTest}
use Rattle.rule_grammar.specs.declared.raw.sequences.RawSequenceItem.{RawSequenceItem}
use Rattle.rule_grammar.specs.declared.raw.sequences.RawSequenceRule.{RawSequenceRule}
use Rattle.rule_grammar.specs.declared.raw.sequences.RawSequenceRule.TheVariants as sequence_rule
use Rattle.rule_grammar.specs.declared.raw.sequences.RawStep.{RawStep}
use Rattle.rule_grammar.specs.declared.raw.sequences.RawWord.{RawWord}
use Rattle.rule_grammar.specs.declared.raw.sequences.RawWordKind.{RawWordKind}
use Rattle.rule_grammar.specs.declared.raw.sequences.RawWordKind.TheVariants as written
use Rattle.rule_check.specs.WindowMeaning.{number_or_first, number_of_type, signed_time, time_within}
use Rattle.rule_check.specs.RuleLiterals.{activity_named, position_of_parameter, parameters_if_known, literal_value}
use Rattle.seq_expand.specs.declared.rules.SendStep.{SendStep}
use Rattle.seq_expand.specs.declared.rules.SendTest.{SendTest}
use Rattle.seq_expand.specs.declared.rules.SendWord.{SendWord}
use Rattle.seq_expand.specs.declared.rules.SendWord.TheVariants as word
use Rattle.seq_expand.specs.declared.rules.Sequencing.{Sequencing}
use Rattle.seq_expand.specs.declared.rules.SpanRule.{SpanRule}

-- the number of a parameter
abbrev pub number_of_parameter : List Parameter → RawName → ℕ
number_of_parameter parameters name = number_or_first (position_of_parameter parameters name.name)

abbrev pub meant_word : Parts → List Parameter → RawWordKind → SendWord
meant_word model parameters (written.Literal literal) = word.Value (literal_value model literal)
meant_word model parameters (written.Parameter name) = word.Parameter (number_of_parameter parameters name)
meant_word model parameters written.SpanResult = word.SpanResult

abbrev pub meant_words : Parts → List Parameter → List RawWord → List SendWord
meant_words model parameters words = map (λ word. meant_word model parameters word.what) words

abbrev pub meant_test : Parts → List Parameter → RawSendTest → SendTest
meant_test model parameters test = record {
  parameter = number_of_parameter parameters test.parameter;
  how = test.how;
  with = literal_value model test.with.what;
}

abbrev pub meant_step : Parts → List Parameter → RawStep → SendStep
meant_step model parameters step = record {
  edge = step.edge;
  shift = signed_time step.shift;
  name = step.name.name;
  words = meant_words model parameters step.words;
  test = option_map (meant_test model parameters) step.test;
}

-- the rule for the spans of a type, where this is one
abbrev pub meant_rules : Parts → RawSequenceRule → List SpanRule
meant_rules model (sequence_rule.Span kind steps) =
    record { kind = number_of_type model kind; steps = map (meant_step model (parameters_if_known (activity_named model kind.name))) steps } ∷ []
meant_rules model (sequence_rule.Spacing name least) = []

-- the spacing of commands of a name, where this is one
abbrev pub meant_spacings : RawSequenceRule → List (List ℕ × ℕ)
meant_spacings (sequence_rule.Span kind steps) = []
meant_spacings (sequence_rule.Spacing name least) = (name.name, time_within least) ∷ []

-- ---- all of them, each sort in the order of the text

abbrev pub rules_of : Parts → List RawSequenceItem → List SpanRule
rules_of model [] = []
rules_of model (item ∷ rest) = meant_rules model item.rule ++ rules_of model rest

abbrev pub spacings_of : List RawSequenceItem → List (List ℕ × ℕ)
spacings_of [] = []
spacings_of (item ∷ rest) = meant_spacings item.rule ++ spacings_of rest

abbrev pub sequencing_of : Parts → List RawSequenceItem → Sequencing
sequencing_of model items = record { rules = rules_of model items; spacings = spacings_of items }
