-- Goals of which nothing is refused are of the model.
use Rattle.std.proofs.Common.{◌≡◌, ℕ, zero, suc, ℤ, pos, Bool, true, false, not, IsTrue, List, [], ◌∷◌, ◌++◌, Option, Some, None, is_some, nat_le, nat_lt, slice_get, refl, ap, ◌∙◌, if◌then◌else◌}
use Rattle.std.specs.Prelude.{int_le}
use Rattle.std.specs.List.{list_all}
use Rattle.std.specs.Int.RustNames.{unsigned_abs}
use Rattle.aerie_base.specs.Ranges.{time_limit}
use Rattle.aerie_base.specs.declared.models.Activity.{Activity}
use Rattle.aerie_base.specs.declared.models.model.Parts.{Parts}
use Rattle.aerie_base.specs.models.ValidModel.{valid_model}
use Rattle.aerie_base.specs.plans.OfModel.{takes}
use Rattle.plan_edit.specs.Requires.{unmet_of_type}
use Rattle.rule_grammar.specs.declared.raw.goals.RawAnchor.{RawAnchor}
use Rattle.rule_grammar.specs.declared.raw.goals.RawAnchor.TheVariants as raw_anchor
use Rattle.rule_grammar.specs.declared.raw.goals.RawGoal.{RawGoal}
use Rattle.rule_grammar.specs.declared.raw.goals.RawGoalKind.{RawGoalKind}
use Rattle.rule_grammar.specs.declared.raw.goals.RawGoalKind.TheVariants as raw_kind
use Rattle.rule_grammar.specs.declared.raw.goals.RawTemplate.{RawTemplate}
use Rattle.constraints.specs.GivenSeries.{is_series}
use Rattle.constraints.specs.OfModel.{is_shift}
use Rattle.rule_check.specs.declared.causes.WrongRule.TheVariants.{Duplicate}
use Rattle.constraints.specs.declared.types.Constraint.{Constraint}
use Rattle.rule_check.specs.WindowMeaning.{signed_time, time_within}
use Rattle.rule_check.specs.ReadParts.{NamedTypesStand, ReadTypesAreOf, ReadWindowsAreOf, ReadLiteralsAreOf}
use Rattle.diagnostics.specs.NotedInTurn.{none_found}
use Rattle.rule_check.specs.RefusalLaws.{both_empty, or_empty}
use Rattle.diagnostics.specs.Diagnostics.{refused_unless}
use Rattle.rule_check.specs.Refusals.{number_of_wrong, first_diagnostic}
use Rattle.rule_check.specs.RuleLiterals.{activity_named}
use Rattle.rule_check.specs.RuleNames.{Datasets}
use Rattle.goals.specs.OfModel.{is_template, is_anchor, is_count, is_goal_kind, is_goal}
use Rattle.goal_check.specs.GoalMeaning.{meant_count, meant_anchor, meant_kind, meant_goal, meant_goals}
use Rattle.goal_check.specs.GoalRefusals.{is_range_within, is_count_within, refusals_of_every, refusals_of_range, refusals_of_count, refusals_of_shifts, refusals_of_anchor, refusals_of_kind, is_goal_named, refusals_of_keeping, refusals_of_goal, refusals_of_goals_behind, refusals_of_goals}
use Rattle.goal_check.specs.TemplateMeaning.{meant_template}
use Rattle.goal_check.specs.TemplateRefusals.{refusals_of_given, refusals_of_requires, refusals_by_type, refusals_of_template}
use Rattle.goal_check.proofs.ReadTemplates.{both_pass, and_too, holds_if_empty, given_takes}

-- a shift is at most the longest time
shift_is : (count : ℤ) → is_shift (signed_time count) ≡ true
shift_is count = go (nat_le (unsigned_abs count) time_limit) refl
  where
    go : (v : Bool) → nat_le (unsigned_abs count) time_limit ≡ v → is_shift (if v then count else pos 0) ≡ true
    go true e = e
    go false e = refl

count_is : (count : ℤ) → is_count_within count ≡ true → is_count (meant_count count) ≡ true
count_is count e = ap (λ (v : Bool). is_count (if v then unsigned_abs count else 1)) e ∙ e

module _ (model : Parts) (duration : ℕ) (constraints : List Constraint) (datasets : Datasets) (valid : valid_model model ≡ true) (series : IsTrue (list_all (λ dataset. is_series dataset.1) datasets))
    (named : NamedTypesStand) (types : ReadTypesAreOf) (windows : ReadWindowsAreOf) (literals : ReadLiteralsAreOf) where
  anchor_is : (anchor : RawAnchor) → refusals_of_anchor model datasets anchor ≡ [] → is_anchor model (meant_anchor model datasets anchor) ≡ true
  anchor_is (raw_anchor.Starts kind) e = types model kind valid e
  anchor_is (raw_anchor.Ends kind) e = types model kind valid e
  anchor_is (raw_anchor.Windows window) e = windows model datasets window valid series e

  kind_is : (kind : RawGoalKind) → refusals_of_kind model duration datasets kind ≡ [] → is_goal_kind model (meant_kind model datasets kind) ≡ true
  kind_is (raw_kind.Recurrence every range) e =
      let two = both_empty (refusals_of_every every) (refusals_of_range duration range) e in
      let lasts = holds_if_empty (nat_le 1 (time_within every.number)) _ every.at two.0 in
      let within = holds_if_empty (is_range_within duration range) _ range.to.at two.1 in
      and_too (nat_le 1 (time_within every.number)) (nat_lt (time_within range.from) (time_within range.to.number)) lasts
      (both_pass (nat_lt (time_within range.from) (time_within range.to.number)) (nat_le (time_within range.to.number) duration) within).0
  kind_is (raw_kind.Coexistence anchor from to) e =
      let two = both_empty (refusals_of_anchor model datasets anchor) (refusals_of_shifts from to) e in
      let rises = holds_if_empty (int_le (signed_time from) (signed_time to.number)) _ to.at two.1 in
      rw (anchor_is anchor two.0, shift_is from, shift_is to.number, rises) refl
  kind_is (raw_kind.Cardinality count range) e =
      let two = both_empty (refusals_of_count count) (refusals_of_range duration range) e in
      let few = holds_if_empty (is_count_within count.number) _ count.at two.0 in
      let within = holds_if_empty (is_range_within duration range) _ range.to.at two.1 in
      and_too (is_count (meant_count count.number)) (nat_lt (time_within range.from) (time_within range.to.number)) (count_is count.number few)
      (both_pass (nat_lt (time_within range.from) (time_within range.to.number)) (nat_le (time_within range.to.number) duration) within).0

  template_is : (template : RawTemplate) → refusals_of_template model template ≡ [] → is_template model (meant_template model template) ≡ true
  template_is template e = go (activity_named model template.kind.name) refl e
    where
      go : (activity : Option Activity) → activity_named model template.kind.name ≡ activity → refusals_by_type model template activity ≡ [] → is_template model (meant_template model template) ≡ true
      go None h e = cc
      go (Some activity) h e =
          let meant = meant_template model template in
          let two = or_empty (refusals_of_given model activity template) (refusals_of_requires model template.kind meant) e in
          let unmet = is_some (unmet_of_type (slice_get model.activities meant.kind) meant.arguments) in
          and_too (takes model.enums (slice_get model.activities meant.kind) meant.arguments) (not unmet)
          (given_takes model activity template valid named literals h two.0) (holds_if_empty (not unmet) _ template.kind.at two.1)

  goal_is : (others : List RawGoal) (goal : RawGoal) → refusals_of_goal model duration constraints datasets others goal ≡ [] → is_goal model (meant_goal model datasets goal) ≡ true
  goal_is others goal e =
      let fresh = refused_unless (not (is_goal_named others goal.name.name)) Duplicate goal.name.at in
      let template = refusals_of_template model goal.template in
      let kind = refusals_of_kind model duration datasets goal.kind in
      let first = both_empty (fresh ++ template ++ kind) (refusals_of_keeping constraints goal.keeping) e in
      let second = both_empty (fresh ++ template) kind first.0 in
      let third = both_empty fresh template second.0 in
      and_too (is_template model (meant_template model goal.template)) (is_goal_kind model (meant_kind model datasets goal.kind)) (template_is goal.template third.1) (kind_is goal.kind second.1)

  goals_are : (room : ℕ) (others goals : List RawGoal) → refusals_of_goals_behind model duration constraints datasets room others goals ≡ [] → list_all (is_goal model) (meant_goals model datasets goals) ≡ true
  goals_are room others [] e = refl
  goals_are zero others (goal ∷ rest) e = cc
  goals_are (suc room) others (goal ∷ rest) e =
      let two = both_empty (refusals_of_goal model duration constraints datasets others goal) (refusals_of_goals_behind model duration constraints datasets room (others ++ goal ∷ []) rest) e in
      and_too (is_goal model (meant_goal model datasets goal)) (list_all (is_goal model) (meant_goals model datasets rest)) (goal_is others goal two.0) (goals_are room (others ++ goal ∷ []) rest two.1)

  pub all_of_model : (goals : List RawGoal) → first_diagnostic (refusals_of_goals model duration constraints datasets goals) ≡ None → list_all (is_goal model) (meant_goals model datasets goals) ≡ true
  all_of_model goals e = goals_are _ [] goals (none_found number_of_wrong (refusals_of_goals model duration constraints datasets goals) e)
