-- The command that a span gives by a step of a rule.
use Rattle.std.specs.Prelude.{ℕ, pos, ◌+ℤ◌, Bool, true, false, List, [], ◌∷◌, ◌++◌, Option, Some, None, nat_eq, slice_get, if◌then◌else◌}
use Rattle.aerie_base.specs.declared.values.Value.{Value}
use Rattle.aerie_base.specs.declared.plans.Edge.{Edge}
use Rattle.aerie_base.specs.declared.plans.Edge.TheVariants.{Start, End}
use Rattle.aerie_base.specs.declared.expressions.Comparison.{Comparison}
use Rattle.aerie_base.specs.expressions.Arithmetic.{compares}
use Rattle.run_data.specs.Spans.{SpanOf}
use Rattle.seq_expand.specs.declared.rules.SendWord.{SendWord}
use Rattle.seq_expand.specs.declared.rules.SendWord.TheVariants as word
use Rattle.seq_expand.specs.declared.rules.SendTest.{SendTest}
use Rattle.seq_expand.specs.declared.rules.SendStep.{SendStep}
use Rattle.seq_expand.specs.declared.rules.SpanRule.{SpanRule}
use Rattle.seq_expand.specs.declared.sequence.Sent.{Sent}

-- ---- what a step needs of a span

-- an unfinished span has no end
abbrev pub edge_time : Edge → SpanOf → Option ℕ
edge_time Start span = Some span.start
edge_time End span = span.end

abbrev pub word_value : SpanOf → SendWord → Option Value
word_value span (word.Value value) = Some value
word_value span (word.Parameter number) = slice_get span.arguments number
word_value span word.SpanResult = span.result

abbrev pub value_before : Option Value → Option (List Value) → Option (List Value)
value_before None values = None
value_before (Some value) None = None
value_before (Some value) (Some values) = Some (value ∷ values)

-- the values of all words, where each has one
abbrev pub word_values : SpanOf → List SendWord → Option (List Value)
word_values span [] = Some []
word_values span (word ∷ rest) = value_before (word_value span word) (word_values span rest)

abbrev pub argument_compares : Comparison → Option Value → Value → Bool
argument_compares how None with = false
argument_compares how (Some argument) with = compares how argument with

abbrev pub test_holds : SpanOf → Option SendTest → Bool
test_holds span None = true
test_holds span (Some test) = argument_compares test.how (slice_get span.arguments test.parameter) test.with

-- ---- the command

abbrev pub command_with : SpanOf → SendStep → Option ℕ → Option (List Value) → Option Sent
command_with span step None values = None
command_with span step (Some time) None = None
command_with span step (Some time) (Some values) =
    Some (record { at = pos time +ℤ step.shift; path = span.path; name = step.name; arguments = values })

-- none where the span has no such edge or no such value, or where the test fails
abbrev pub sent_of : SpanOf → SendStep → Option Sent
sent_of span step = if test_holds span step.test then command_with span step (edge_time step.edge span) (word_values span step.words) else None

-- ---- all commands

abbrev pub sent_before : Option Sent → List Sent → List Sent
sent_before None rest = rest
sent_before (Some sent) rest = sent ∷ rest

abbrev pub sent_by_steps : SpanOf → List SendStep → List Sent
sent_by_steps span [] = []
sent_by_steps span (step ∷ rest) = sent_before (sent_of span step) (sent_by_steps span rest)

-- the steps for a type
abbrev pub steps_for : ℕ → List SpanRule → List SendStep
steps_for kind [] = []
steps_for kind (rule ∷ rest) = if nat_eq rule.kind kind then rule.steps else steps_for kind rest

-- in the order of the spans, then of the steps
abbrev pub sent_by_spans : List SpanRule → List SpanOf → List Sent
sent_by_spans rules [] = []
sent_by_spans rules (span ∷ rest) = sent_by_steps span (steps_for span.kind rules) ++ sent_by_spans rules rest
