-- What a reader of goals answers: the first refusal, or the goals that are meant.
use Rattle.std.specs.Prelude.{ℕ, List, Result}
use Rattle.aerie_base.specs.declared.models.model.Parts.{Parts}
use Rattle.aerie_text.specs.declared.token.Token.{Token}
use Rattle.readers.specs.Marks.{marks_of}
use Rattle.rule_grammar.specs.RuleAnswers.{answer_of}
use Rattle.rule_grammar.specs.declared.raw.goals.RawGoal.{RawGoal}
use Rattle.rule_grammar.specs.reading.Goals.{goals_at}
use Rattle.rule_grammar.specs.reading.ToTheEnd.{to_the_end}
use Rattle.rule_check.specs.declared.rule_error.RuleError.{RuleError}
use Rattle.constraints.specs.declared.types.Constraint.{Constraint}
use Rattle.rule_check.specs.RuleErrors.{judged_rules, rules_or_refusal, RuledUnlessOutOfMemory}
use Rattle.rule_check.specs.Refusals.{first_diagnostic}
use Rattle.rule_check.specs.RuleNames.{Datasets}
use Rattle.goals.specs.declared.types.Goal.{Goal}
use Rattle.goal_check.specs.GoalMeaning.{meant_goals}
use Rattle.goal_check.specs.GoalRefusals.{refusals_of_goals}

-- the goals that these tokens of a text are, for a model, the duration of a plan, constraints and datasets, or the first
-- refusal: bad syntax and windows too deep come before all others, the first of them in the text
abbrev pub goals_answer : List ℕ → List Token → Parts → ℕ → List Constraint → Datasets → Result (List Goal) RuleError
goals_answer text tokens model duration constraints datasets =
    judged_rules (refusals_of_goals model duration constraints datasets) (meant_goals model datasets) (answer_of text tokens (to_the_end (goals_at (marks_of text tokens))))

abbrev pub IsGoalsAnswer : List ℕ → List Token → Parts → ℕ → List Constraint → Datasets → Result (List Goal) RuleError → Type 0
IsGoalsAnswer text tokens model duration constraints datasets result =
    RuledUnlessOutOfMemory (goals_answer text tokens model duration constraints datasets) result

-- the same of goals that are read as they are written
abbrev pub IsJudgedGoals : Parts → ℕ → List Constraint → Datasets → List RawGoal → Result (List Goal) RuleError → Type 0
IsJudgedGoals model duration constraints datasets raw result =
    RuledUnlessOutOfMemory (rules_or_refusal (first_diagnostic (refusals_of_goals model duration constraints datasets raw)) (meant_goals model datasets raw)) result
