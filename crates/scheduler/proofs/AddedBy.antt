-- What a schedule tells as placed is what it added.
use Rattle.std.proofs.Common.{◌≡◌, ℕ, IsTrue, List, [], ◌∷◌, ◌++◌, slice_get, refl, sym, ap, ◌∙◌}
use Rattle.std.specs.List.{list_all}
use Rattle.aerie_base.specs.declared.models.model.Parts.{Parts}
use Rattle.aerie_base.specs.declared.plans.Directive.{Directive}
use Rattle.aerie_base.specs.declared.plans.Plan.{Plan}
use Rattle.run_data.specs.declared.runs.Run.{Run}
use Rattle.run_data.specs.laws.Orders.{EachOf}
use Rattle.constraints.specs.declared.types.Constraint.{Constraint}
use Rattle.plan_edit.specs.Requires.{unmet_of_type}
use Rattle.goals.specs.declared.types.Goal.{Goal}
use Rattle.goals.specs.declared.types.Template.{Template}
use Rattle.goals.specs.OfModel.{is_template, is_goal_kind, is_goal}
use Rattle.scheduler.specs.declared.progress.GoalPart.{GoalPart}
use Rattle.scheduler.specs.declared.scheduled.Schedule.{Schedule}
use Rattle.scheduler.specs.FreshRuns.{fresh_run}
use Rattle.scheduler.specs.Scheduling.{goals_placed, statuses_on, trial_limit, schedule_of}
use Rattle.scheduler.specs.Told.{EachWith}
use Rattle.scheduler.specs.OnlyAdds.{OnlyAddsTo, placed_for_all}
use Rattle.scheduler.specs.AddedDirectives.{IsAsked, IsRowFor, HasRowsFor}
use Rattle.scheduler.proofs.OnlyAdded.{IsOfTemplate, IsRow, goals_add, placed_in}
use Rattle.scheduler.proofs.Templates.{both_hold, met_by}

-- ---- statuses

-- the statuses have all that was placed
told_all : (model : Parts) (run : Run) (P : Goal → GoalPart → Type 0) (goals : List Goal) (parts : List GoalPart) → EachWith P goals parts →
    placed_in parts ≡ placed_for_all (statuses_on model run goals parts)
told_all model run P [] [] each = refl
told_all model run P [] (part ∷ others) each = absurd each
told_all model run P (goal ∷ rest) [] each = absurd each
told_all model run P (goal ∷ rest) (part ∷ others) each = ap (λ (ns : List ℕ). part.placed ++ ns) (told_all model run P rest others each.1)

-- ---- what a template asks

asked_all : (model : Parts) (template : Template) → IsTrue (is_template model template) → (directives : List Directive) → EachOf (IsOfTemplate template) directives →
    EachOf (IsAsked model template) directives
asked_all model template good [] each = tt
asked_all model template good (directive ∷ rest) each = (
  record {
    loose = each.0.loose;
    kind = each.0.kind;
    arguments = each.0.arguments;
    met =
        (λ i. unmet_of_type (slice_get model.activities (each.0.kind i)) (each.0.arguments i))
        ∙ met_by model template good;
  },
  asked_all model template good rest each.1,
)

module _ (model : Parts) (constraints : List Constraint) (run_of : Plan → Run) where
  rows_for : (plan : Plan) (run : Run) (goals : List Goal) (parts : List GoalPart) → IsTrue (list_all (is_goal model) goals) →
      EachWith (IsRow model constraints run_of plan) goals parts → EachWith (IsRowFor model plan) goals (statuses_on model run goals parts)
  rows_for plan run [] [] good each = tt
  rows_for plan run [] (part ∷ others) good each = absurd each
  rows_for plan run (goal ∷ rest) [] good each = absurd each
  rows_for plan run (goal ∷ rest) (part ∷ others) good each =
      let own = both_hold (is_goal model goal) (list_all (is_goal model) rest) good in (
        record {
          front = each.0.front;
          row = each.0.row;
          back = each.0.back;
          there = each.0.there;
          ids = each.0.ids_are;
          asked =
              asked_all model goal.template (both_hold (is_template model goal.template) (is_goal_kind model goal.kind) own.0).0
              each.0.row each.0.each;
        },
        rows_for plan run rest others own.1 each.1,
      )

-- ---- of a schedule

module _ (model : Parts) (bound : ℕ) (constraints : List Constraint) (goals : List Goal) (plan : Plan) where
  abbrev made : Schedule
  made = schedule_of model bound constraints goals plan

  pub schedule_adds : OnlyAddsTo plan made
  unfolding schedule_of
  schedule_adds =
      let all = goals_placed model constraints (fresh_run model bound) goals plan trial_limit in
      let add = goals_add model constraints (fresh_run model bound) goals plan trial_limit in record {
        added = add.adds.added;
        directives = add.adds.directives;
        ids =
            add.adds.ids
            ∙ told_all model (fresh_run model bound all.plan) (IsRow model constraints (fresh_run model bound) all.plan) goals all.parts add.rows;
        counted =
            sym (told_all model (fresh_run model bound all.plan) (IsRow model constraints (fresh_run model bound) all.plan) goals all.parts add.rows)
            ∙ add.adds.counted;
        next_id = add.adds.next_id;
      }

  pub schedule_asked : IsTrue (list_all (is_goal model) goals) → HasRowsFor model goals made
  unfolding schedule_of
  schedule_asked good =
      let all = goals_placed model constraints (fresh_run model bound) goals plan trial_limit in
      rows_for model constraints (fresh_run model bound) all.plan (fresh_run model bound all.plan) goals all.parts good
      (goals_add model constraints (fresh_run model bound) goals plan trial_limit).rows
