-- What a reader of constraints answers: the first refusal, or the constraints that are meant.
use Rattle.std.specs.Prelude.{ℕ, List, Result}
use Rattle.aerie_base.specs.declared.models.model.Parts.{Parts}
use Rattle.aerie_text.specs.declared.token.Token.{Token}
use Rattle.readers.specs.Marks.{marks_of}
use Rattle.rule_grammar.specs.RuleAnswers.{answer_of}
use Rattle.rule_grammar.specs.declared.raw.constraints.RawConstraint.{RawConstraint}
use Rattle.rule_grammar.specs.reading.Constraints.{constraints_at}
use Rattle.rule_grammar.specs.reading.ToTheEnd.{to_the_end}
use Rattle.constraints.specs.declared.types.Constraint.{Constraint}
use Rattle.rule_check.specs.declared.rule_error.RuleError.{RuleError}
use Rattle.rule_check.specs.ConstraintMeaning.{constraints_of}
use Rattle.rule_check.specs.ConstraintRefusals.{refusals_of_constraints}
use Rattle.rule_check.specs.Refusals.{first_diagnostic}
use Rattle.rule_check.specs.RuleErrors.{judged_rules, rules_or_refusal, RuledUnlessOutOfMemory}
use Rattle.rule_check.specs.RuleNames.{Datasets}

-- constraints as they are written, judged
abbrev pub judged_constraints : Parts → Datasets → List RawConstraint → Result (List Constraint) RuleError
judged_constraints model datasets raw = rules_or_refusal (first_diagnostic (refusals_of_constraints model datasets raw)) (constraints_of model datasets raw)

-- the constraints that these tokens of a text are, for a model and datasets, or the first refusal: bad syntax and windows too
-- deep come before all others, the first of them in the text
abbrev pub constraints_answer : List ℕ → List Token → Parts → Datasets → Result (List Constraint) RuleError
constraints_answer text tokens model datasets =
    judged_rules (refusals_of_constraints model datasets) (constraints_of model datasets) (answer_of text tokens (to_the_end (constraints_at (marks_of text tokens))))

abbrev pub IsConstraintsAnswer : List ℕ → List Token → Parts → Datasets → Result (List Constraint) RuleError → Type 0
IsConstraintsAnswer text tokens model datasets result = RuledUnlessOutOfMemory (constraints_answer text tokens model datasets) result
