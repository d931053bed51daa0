-- What is refused of goals.
use Rattle.std.specs.Prelude.{ℕ, ◌-◌, ℤ, Bool, ◌&&◌, not, List, [], ◌∷◌, ◌++◌, None, nat_le, nat_lt, int_le, take, drop}
use Rattle.std.specs.List.{list_any}
use Rattle.std.specs.Int.RustNames.{unsigned_abs}
use Rattle.aerie_base.specs.declared.models.model.Parts.{Parts}
use Rattle.aerie_base.specs.models.Names.{same_name}
use Rattle.model_reader.specs.declared.raw.names.RawName.{RawName}
use Rattle.readers.specs.declared.limits.Limit.TheVariants.{Goals}
use Rattle.rule_grammar.specs.declared.raw.goals.RawAnchor.{RawAnchor}
use Rattle.rule_grammar.specs.declared.raw.goals.RawAnchor.TheVariants as raw_anchor
use Rattle.rule_grammar.specs.declared.raw.goals.RawGoal.{RawGoal}
use Rattle.rule_grammar.specs.declared.raw.goals.RawGoalKind.{RawGoalKind}
use Rattle.rule_grammar.specs.declared.raw.goals.RawGoalKind.TheVariants as raw_kind
use Rattle.rule_grammar.specs.declared.raw.goals.RawNumber.{RawNumber}
use Rattle.rule_grammar.specs.declared.raw.goals.RawRange.{RawRange}
use Rattle.constraints.specs.declared.types.Constraint.{Constraint}
use Rattle.diagnostics.specs.declared.diagnostic.Diagnostic.{Diagnostic}
use Rattle.rule_check.specs.declared.causes.WrongRule.{WrongRule}
use Rattle.rule_check.specs.declared.causes.WrongRule.TheVariants.{Unknown, Duplicate, OutOfRange, TooMany}
use Rattle.rule_check.specs.WindowMeaning.{signed_time, time_within}
use Rattle.diagnostics.specs.Diagnostics.{at_place, refused_unless}
use Rattle.rule_check.specs.Refusals.{refusals_in_turn}
use Rattle.rule_check.specs.RuleNames.{Datasets}
use Rattle.rule_check.specs.WindowRefusals.{refusals_of_type, refusals_of_window}
use Rattle.goals.specs.OfModel.{count_limit}
use Rattle.goal_check.specs.TemplateRefusals.{refusals_of_template}

-- the most goals of a model
abbrev pub most_goals : ℕ
most_goals = 64

-- ---- numbers

-- a length of time above 0
abbrev pub refusals_of_every : RawNumber → List (Diagnostic WrongRule)
refusals_of_every every = refused_unless (nat_le 1 (time_within every.number)) OutOfRange every.at

-- a range of time that ends later than it begins, and not behind the plan
abbrev pub is_range_within : ℕ → RawRange → Bool
is_range_within duration range =
    nat_lt (time_within range.from) (time_within range.to.number) && nat_le (time_within range.to.number) duration

abbrev pub refusals_of_range : ℕ → RawRange → List (Diagnostic WrongRule)
refusals_of_range duration range = refused_unless (is_range_within duration range) OutOfRange range.to.at

-- how many starts a goal may ask for
abbrev pub is_count_within : ℤ → Bool
is_count_within count = nat_le 1 (unsigned_abs count) && nat_le (unsigned_abs count) count_limit

abbrev pub refusals_of_count : RawNumber → List (Diagnostic WrongRule)
refusals_of_count count = refused_unless (is_count_within count.number) OutOfRange count.at

-- an end that is not before the begin
abbrev pub refusals_of_shifts : ℤ → RawNumber → List (Diagnostic WrongRule)
refusals_of_shifts from to = refused_unless (int_le (signed_time from) (signed_time to.number)) OutOfRange to.at

-- ---- kinds

abbrev pub refusals_of_anchor : Parts → Datasets → RawAnchor → List (Diagnostic WrongRule)
refusals_of_anchor model datasets (raw_anchor.Starts kind) = refusals_of_type model kind
refusals_of_anchor model datasets (raw_anchor.Ends kind) = refusals_of_type model kind
refusals_of_anchor model datasets (raw_anchor.Windows window) = refusals_of_window model datasets None window

abbrev pub refusals_of_kind : Parts → ℕ → Datasets → RawGoalKind → List (Diagnostic WrongRule)
refusals_of_kind model duration datasets (raw_kind.Recurrence every range) = refusals_of_every every ++ refusals_of_range duration range
refusals_of_kind model duration datasets (raw_kind.Coexistence anchor from to) = refusals_of_anchor model datasets anchor ++ refusals_of_shifts from to
refusals_of_kind model duration datasets (raw_kind.Cardinality count range) = refusals_of_count count ++ refusals_of_range duration range

-- ---- what is kept

-- whether one of the constraints has the name
abbrev pub is_constraint_named : List Constraint → List ℕ → Bool
is_constraint_named constraints name = list_any (λ (constraint : Constraint). same_name constraint.name name) constraints

-- names behind `keeping`; one may stand there twice
abbrev pub refusals_of_keeping : List Constraint → List RawName → List (Diagnostic WrongRule)
refusals_of_keeping constraints [] = []
refusals_of_keeping constraints (name ∷ rest) =
    refused_unless (is_constraint_named constraints name.name) Unknown name.at ++ refusals_of_keeping constraints rest

-- ---- goals

-- whether one of the goals has the name
abbrev pub is_goal_named : List RawGoal → List ℕ → Bool
is_goal_named goals name = list_any (λ other. same_name other.name.name name) goals

-- a goal behind others
abbrev pub refusals_of_goal : Parts → ℕ → List Constraint → Datasets → List RawGoal → RawGoal → List (Diagnostic WrongRule)
refusals_of_goal model duration constraints datasets others goal =
    refused_unless (not (is_goal_named others goal.name.name)) Duplicate goal.name.at
    ++ refusals_of_template model goal.template
    ++ refusals_of_kind model duration datasets goal.kind
    ++ refusals_of_keeping constraints goal.keeping

-- one goal more than there may be
abbrev pub too_many_goals : RawGoal → List (Diagnostic WrongRule)
too_many_goals goal = at_place (TooMany Goals) goal.name.at

-- goals behind others, of which there may be so many more
abbrev pub refusals_of_goals_behind : Parts → ℕ → List Constraint → Datasets → ℕ → List RawGoal → List RawGoal → List (Diagnostic WrongRule)
refusals_of_goals_behind model duration constraints datasets room others goals =
    refusals_in_turn (refusals_of_goal model duration constraints datasets) too_many_goals room others goals

-- the goals from this number on
abbrev pub refusals_of_goals_from : Parts → ℕ → List Constraint → Datasets → ℕ → List RawGoal → List (Diagnostic WrongRule)
refusals_of_goals_from model duration constraints datasets at goals =
    refusals_of_goals_behind model duration constraints datasets (most_goals - at) (take at goals) (drop at goals)

-- what is refused of the goals of a model, by the duration of a plan and the constraints and datasets beside them
abbrev pub refusals_of_goals : Parts → ℕ → List Constraint → Datasets → List RawGoal → List (Diagnostic WrongRule)
refusals_of_goals model duration constraints datasets goals = refusals_of_goals_behind model duration constraints datasets most_goals [] goals
