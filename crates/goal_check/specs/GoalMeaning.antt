-- The goals that are meant by those that are written. Of what is refused this is never used.
use Rattle.std.specs.Prelude.{ℕ, ℤ, List, None, map, if◌then◌else◌}
use Rattle.std.specs.Int.RustNames.{unsigned_abs}
use Rattle.aerie_base.specs.declared.models.model.Parts.{Parts}
use Rattle.rule_grammar.specs.declared.raw.goals.RawAnchor.{RawAnchor}
use Rattle.rule_grammar.specs.declared.raw.goals.RawAnchor.TheVariants as raw_anchor
use Rattle.rule_grammar.specs.declared.raw.goals.RawGoal.{RawGoal}
use Rattle.rule_grammar.specs.declared.raw.goals.RawGoalKind.{RawGoalKind}
use Rattle.rule_grammar.specs.declared.raw.goals.RawGoalKind.TheVariants as raw_kind
use Rattle.rule_check.specs.WindowMeaning.{number_of_type, signed_time, time_within, window_of}
use Rattle.rule_check.specs.RuleNames.{Datasets}
use Rattle.goals.specs.declared.types.Goal.{Goal}
use Rattle.goals.specs.declared.types.GoalAnchor.{GoalAnchor}
use Rattle.goals.specs.declared.types.GoalAnchor.TheVariants as goal_anchor
use Rattle.goals.specs.declared.types.GoalKind.{GoalKind}
use Rattle.goals.specs.declared.types.GoalKind.TheVariants as goal_kind
use Rattle.goal_check.specs.GoalRefusals.{is_count_within}
use Rattle.goal_check.specs.TemplateMeaning.{meant_template}

-- how many starts
abbrev pub meant_count : ℤ → ℕ
meant_count count = if is_count_within count then unsigned_abs count else 1

abbrev pub meant_anchor : Parts → Datasets → RawAnchor → GoalAnchor
meant_anchor model datasets (raw_anchor.Starts kind) = goal_anchor.Starts (number_of_type model kind)
meant_anchor model datasets (raw_anchor.Ends kind) = goal_anchor.Ends (number_of_type model kind)
meant_anchor model datasets (raw_anchor.Windows window) = goal_anchor.Windows (window_of model datasets None window)

abbrev pub meant_kind : Parts → Datasets → RawGoalKind → GoalKind
meant_kind model datasets (raw_kind.Recurrence every range) =
    goal_kind.Recurrence (time_within every.number) (time_within range.from) (time_within range.to.number)
meant_kind model datasets (raw_kind.Coexistence anchor from to) =
    goal_kind.Coexistence (meant_anchor model datasets anchor) (signed_time from) (signed_time to.number)
meant_kind model datasets (raw_kind.Cardinality count range) =
    goal_kind.Cardinality (meant_count count.number) (time_within range.from) (time_within range.to.number)

abbrev pub meant_goal : Parts → Datasets → RawGoal → Goal
meant_goal model datasets goal = record {
  name = goal.name.name;
  template = meant_template model goal.template;
  kind = meant_kind model datasets goal.kind;
  keeping = map (λ name. name.name) goal.keeping;
  rollback = goal.rollback;
}

abbrev pub meant_goals : Parts → Datasets → List RawGoal → List Goal
meant_goals model datasets goals = map (meant_goal model datasets) goals
