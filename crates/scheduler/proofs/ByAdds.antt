-- A schedule is made by `add`s that a client could have made.
use Rattle.std.proofs.Common.{◌≡◌, ℕ, IsTrue, List, [], ◌∷◌, ◌++◌, None, Some, Result, Ok, Err, refl, ap, ◌∙◌, subst}
use Rattle.std.specs.List.{list_all}
use Rattle.aerie_base.specs.declared.arguments.RawArgument.{RawArgument}
use Rattle.aerie_base.specs.declared.models.model.Parts.{Parts}
use Rattle.aerie_base.specs.declared.plans.Plan.{Plan}
use Rattle.aerie_base.specs.models.ValidModel.{valid_model}
use Rattle.run_data.specs.declared.runs.Run.{Run}
use Rattle.constraints.specs.declared.types.Constraint.{Constraint}
use Rattle.plan_edit.specs.declared.arguments.Given.{Given}
use Rattle.plan_edit.specs.declared.errors.EditError.{EditError}
use Rattle.plan_edit.specs.Answers.{then_made_of}
use Rattle.plan_edit.specs.Editing.{directive_placed, given_of, with_added}
use Rattle.goals.specs.declared.types.Goal.{Goal}
use Rattle.goals.specs.declared.types.Template.{Template}
use Rattle.goals.specs.OfModel.{is_goal, is_goal_kind, is_template}
use Rattle.scheduler.specs.ClientAdds.{ClientAdd, IsAfterAdds, IsMadeByAdds, TrialIsClientAdd, after_add}
use Rattle.scheduler.specs.FreshRuns.{fresh_run}
use Rattle.scheduler.specs.Scheduling.{goal_placed, goals_placed, schedule_of, trial_limit}
use Rattle.scheduler.specs.Trials.{unless_refusal, with_template}
use Rattle.scheduler.proofs.GivenTemplates.{template_given}
use Rattle.scheduler.proofs.Placements.{IsOfTrials, goal_placed_by}
use Rattle.scheduler.proofs.Templates.{both_hold}

-- ---- a trial

-- what `add` answers is what is made of the type and the values that are given
pub as_given : (model : Parts) (plan : Plan) (template : Template) (time : ℕ) (name : List ℕ) (arguments : List RawArgument) →
    given_of model name arguments ≡ Ok (record { kind = template.kind; arguments = template.arguments }) →
    after_add model plan (record { time = time; name = name; arguments = arguments }) ≡ with_template plan template time
as_given model plan template time name arguments e =
    ap (λ (given : Result Given EditError). then_made_of (λ directive. Ok (with_added plan directive))
    (then_made_of (directive_placed plan (record { start = time; anchor = None })) given)) e

pub trial_is_add : TrialIsClientAdd
trial_is_add model template valid good =
    let given = template_given model template valid good in
    (given.name, given.arguments, λ plan time. as_given model plan template time given.name given.arguments given.gives)

-- ---- adds behind others

after_none : (model : Parts) (plan : Plan) → IsMadeByAdds model plan plan
after_none model plan = ([], refl)

adds_more : (model : Parts) (adds others : List ClientAdd) (old between new : Plan) → IsAfterAdds model adds old between → IsAfterAdds model others between new → IsAfterAdds model (adds ++ others) old new
adds_more model [] others old between new is are = subst (λ (p : Plan). IsAfterAdds model others p new) is are
adds_more model (add ∷ adds) others old between new is are = (is.0, is.1, adds_more model adds others is.0 between new is.2 are)

made_more : (model : Parts) (old between new : Plan) → IsMadeByAdds model old between → IsMadeByAdds model between new → IsMadeByAdds model old new
made_more model old between new one other = (one.0 ++ other.0, adds_more model one.0 other.0 old between new one.1 other.1)

made_of : (made : Result Plan EditError) (next : Plan) → unless_refusal made ≡ Some next → made ≡ Ok next
made_of (Ok plan) next e = cc
made_of (Err refusal) next e = absurd (cc)

-- ---- goals

of_trials : (model : Parts) (template : Template) → IsTrue (valid_model model) → IsTrue (is_template model template) → IsOfTrials template (λ old new placed. IsMadeByAdds model old new)
of_trials model template valid good = record {
  none = after_none model;
  more = λ old plan next placed time e is.
      let given = template_given model template valid good in
      let add : ClientAdd = record { time = time; name = given.name; arguments = given.arguments } in
      let answer = as_given model plan template time given.name given.arguments given.gives ∙ made_of (with_template plan template time) next e in
      made_more model old plan next is (add ∷ [], (next, answer, refl));
}

goals_by_adds : (model : Parts) (constraints : List Constraint) (run_of : Plan → Run) → IsTrue (valid_model model) → (goals : List Goal) (plan : Plan) (left : ℕ) →
    IsTrue (list_all (is_goal model) goals) → IsMadeByAdds model plan (goals_placed model constraints run_of goals plan left).plan
goals_by_adds model constraints run_of valid [] plan left good = after_none model plan
goals_by_adds model constraints run_of valid (goal ∷ rest) plan left good =
    let all = both_hold (is_goal model goal) (list_all (is_goal model) rest) good in
    let template = (both_hold (is_template model goal.template) (is_goal_kind model goal.kind) all.0).0 in
    let at = goal_placed model constraints run_of goal plan left in
    made_more model plan at.plan (goals_placed model constraints run_of rest at.plan at.left).plan
    (goal_placed_by model constraints run_of goal (λ old new placed. IsMadeByAdds model old new) (of_trials model goal.template valid template) plan left)
    (goals_by_adds model constraints run_of valid rest at.plan at.left all.1)

pub schedule_by_adds : (model : Parts) (bound : ℕ) (constraints : List Constraint) (goals : List Goal) (plan : Plan) → IsTrue (valid_model model) → IsTrue (list_all (is_goal model) goals) →
    IsMadeByAdds model plan (schedule_of model bound constraints goals plan).plan
unfolding schedule_of
schedule_by_adds model bound constraints goals plan valid good = goals_by_adds model constraints (fresh_run model bound) valid goals plan trial_limit good
