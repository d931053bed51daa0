-- The directives that a schedule adds are as its goals ask.
use Rattle.std.specs.Prelude.{◌≡◌, List, ◌++◌, None, slice_get}
use Rattle.aerie_base.specs.declared.models.model.Parts.{Parts}
use Rattle.aerie_base.specs.declared.plans.Directive.{Directive}
use Rattle.aerie_base.specs.declared.plans.Plan.{Plan}
use Rattle.aerie_base.specs.plans.OfModel.{ids_of}
use Rattle.run_data.specs.laws.Orders.{EachOf}
use Rattle.plan_edit.specs.Requires.{unmet_of_type}
use Rattle.goals.specs.declared.types.Goal.{Goal}
use Rattle.goals.specs.declared.types.Template.{Template}
use Rattle.goals.specs.declared.status.GoalStatus.{GoalStatus}
use Rattle.scheduler.specs.declared.scheduled.Schedule.{Schedule}
use Rattle.scheduler.specs.Told.{EachWith}

-- a directive has the template's type, the template's arguments and no anchor, and its arguments meet each `require` of its type
pub record IsAsked (model : Parts) (template : Template) (directive : Directive) : Type 0 where
  pub loose : directive.anchor ≡ None
  pub kind : directive.kind ≡ template.kind
  pub arguments : directive.arguments ≡ template.arguments
  pub met : unmet_of_type (slice_get model.activities directive.kind) directive.arguments ≡ None

-- what was placed for a goal stands in a row in the plan, in the order of its ids, and is as the goal's template asks
pub record IsRowFor (model : Parts) (plan : Plan) (goal : Goal) (status : GoalStatus) : Type 0 where
  pub front : List Directive
  pub row : List Directive
  pub back : List Directive
  pub there : plan.directives ≡ front ++ row ++ back
  pub ids : ids_of row ≡ status.placed
  pub asked : EachOf (IsAsked model goal.template) row

-- this is so of each goal and its status
abbrev pub HasRowsFor : Parts → List Goal → Schedule → Type 0
HasRowsFor model goals made = EachWith (IsRowFor model made.plan) goals made.goals
