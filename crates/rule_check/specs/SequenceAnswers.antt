-- What a reader of a sequence answers: the first refusal, or the rules that are meant.
use Rattle.std.specs.Prelude.{ℕ, List, Result}
use Rattle.aerie_base.specs.declared.models.model.Parts.{Parts}
use Rattle.aerie_text.specs.declared.token.Token.{Token}
use Rattle.readers.specs.Marks.{marks_of}
use Rattle.rule_grammar.specs.RuleAnswers.{answer_of}
use Rattle.rule_grammar.specs.declared.raw.sequences.RawSequenceItem.{RawSequenceItem}
use Rattle.rule_grammar.specs.reading.Sequences.{sequence_at}
use Rattle.rule_grammar.specs.reading.ToTheEnd.{to_the_end}
use Rattle.rule_check.specs.declared.rule_error.RuleError.{RuleError}
use Rattle.rule_check.specs.RuleErrors.{judged_rules, rules_or_refusal, RuledUnlessOutOfMemory}
use Rattle.rule_check.specs.Refusals.{first_diagnostic}
use Rattle.seq_expand.specs.declared.rules.Sequencing.{Sequencing}
use Rattle.rule_check.specs.SequenceRefusals.{refusals_of_sequence}
use Rattle.rule_check.specs.SequenceMeaning.{sequencing_of}

-- the rules that these tokens of a text are, for a model, or the first refusal: bad syntax comes before all others
abbrev pub sequence_answer : List ℕ → List Token → Parts → Result Sequencing RuleError
sequence_answer text tokens model =
    judged_rules (refusals_of_sequence model) (sequencing_of model) (answer_of text tokens (to_the_end (sequence_at (marks_of text tokens))))

abbrev pub IsSequenceAnswer : List ℕ → List Token → Parts → Result Sequencing RuleError → Type 0
IsSequenceAnswer text tokens model result = RuledUnlessOutOfMemory (sequence_answer text tokens model) result

-- the same of rules that are read as they are written
abbrev pub IsJudgedSequence : Parts → List RawSequenceItem → Result Sequencing RuleError → Type 0
IsJudgedSequence model raw result =
    RuledUnlessOutOfMemory (rules_or_refusal (first_diagnostic (refusals_of_sequence model raw)) (sequencing_of model raw)) result
