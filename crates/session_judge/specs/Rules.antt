-- The rules of a session's models, sort by sort.
use Rattle.std.specs.Prelude.{ℕ, ◌-◌, List, [], Option, Some, None, Result, Ok, Err, take, drop}
use Rattle.std.specs.List.{zip}
use Rattle.aerie_base.specs.declared.models.model.Parts.{Parts}
use Rattle.aerie_text.specs.declared.token.Token.{Token}
use Rattle.rule_check.specs.declared.rule_error.RuleError.{RuleError}
use Rattle.constraints.specs.declared.types.Constraint.{Constraint}
use Rattle.rule_check.specs.ConstraintAnswers.{constraints_answer}
use Rattle.goals.specs.declared.types.Goal.{Goal}
use Rattle.goal_check.specs.GoalAnswers.{goals_answer}
use Rattle.seq_expand.specs.declared.rules.Sequencing.{Sequencing}
use Rattle.rule_check.specs.SequenceAnswers.{sequence_answer}
use Rattle.session_reader.specs.DatasetAnswers.{NamedSeries}
use Rattle.session_reader.specs.Sections.{TokenRange}
use Rattle.session_reader.specs.declared.session.ModelPart.{ModelPart}
use Rattle.session_reader.specs.declared.session.Session.{Session}
use Rattle.session_judge.specs.FirstRefused.{RulesAnswer, all_rules}
use Rattle.session_judge.specs.Telling.{told_rule}

-- the tokens of a section
abbrev pub tokens_in : List Token → TokenRange → List Token
tokens_in tokens range = take (range.1 - range.0) (drop range.0 tokens)

-- rules, or how their refusal is told: its place is one of the whole text
abbrev pub told_rules : {A : Type 0} → List ℕ → List Token → Result A RuleError → RulesAnswer A
told_rules text tokens (Ok rules) = Ok rules
told_rules text tokens (Err error) = Err (told_rule text tokens error)

-- ---- constraints

-- the constraints of a model: those of its section, and none where it has no section
abbrev pub constraints_of_section : List ℕ → List Token → List NamedSeries → Parts → Option TokenRange → RulesAnswer (List Constraint)
constraints_of_section text tokens datasets model None = Ok []
constraints_of_section text tokens datasets model (Some range) =
    told_rules text tokens (constraints_answer text (tokens_in tokens range) model datasets)

abbrev pub constraints_of_part : List ℕ → List Token → List NamedSeries → ModelPart → RulesAnswer (List Constraint)
constraints_of_part text tokens datasets part = constraints_of_section text tokens datasets part.model part.constraints

-- the constraints of all models
abbrev pub session_constraints : List ℕ → List Token → Session → RulesAnswer (List (List Constraint))
session_constraints text tokens session =
    all_rules (λ part. part.constraints) (constraints_of_part text tokens session.datasets) session.models

-- ---- goals

-- the goals of a model for a plan of this duration: those of its section, which may keep these constraints, and none where it has no section
abbrev pub goals_of_section : List ℕ → List Token → List NamedSeries → ℕ → Parts → List Constraint → Option TokenRange → RulesAnswer (List Goal)
goals_of_section text tokens datasets duration model constraints None = Ok []
goals_of_section text tokens datasets duration model constraints (Some range) =
    told_rules text tokens (goals_answer text (tokens_in tokens range) model duration constraints datasets)

-- a model with its constraints
abbrev pub RuledPart : Type 0
RuledPart = ModelPart × List Constraint

abbrev pub goals_of_part : List ℕ → List Token → List NamedSeries → ℕ → RuledPart → RulesAnswer (List Goal)
goals_of_part text tokens datasets duration part = goals_of_section text tokens datasets duration part.0.model part.1 part.0.goals

-- the goals of all models, each with its own constraints
abbrev pub session_goals : List ℕ → List Token → Session → List (List Constraint) → RulesAnswer (List (List Goal))
session_goals text tokens session constraints =
    all_rules (λ part. part.0.goals) (goals_of_part text tokens session.datasets session.plan.duration) (zip session.models constraints)

-- ---- sequences

-- the rules by which a model gives commands: those of its section, and none where it has no section
abbrev pub sequence_of_section : List ℕ → List Token → Parts → Option TokenRange → RulesAnswer Sequencing
sequence_of_section text tokens model None = Ok (record { rules = []; spacings = [] })
sequence_of_section text tokens model (Some range) = told_rules text tokens (sequence_answer text (tokens_in tokens range) model)

abbrev pub sequence_of_part : List ℕ → List Token → ModelPart → RulesAnswer Sequencing
sequence_of_part text tokens part = sequence_of_section text tokens part.model part.sequence

-- those of all models
abbrev pub session_sequences : List ℕ → List Token → Session → RulesAnswer (List Sequencing)
session_sequences text tokens session = all_rules (λ part. part.sequence) (sequence_of_part text tokens) session.models
