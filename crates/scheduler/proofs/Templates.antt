-- The template of a goal of the model is of the model.
use Rattle.std.proofs.Common.{◌≡◌, Bool, true, false, ◌&&◌, not, IsTrue, Option, Some, None, is_some, slice_get, refl}
use Rattle.aerie_base.specs.declared.models.model.Parts.{Parts}
use Rattle.aerie_base.specs.plans.OfModel.{takes}
use Rattle.plan_edit.specs.Requires.{unmet_of_type}
use Rattle.goals.specs.declared.types.Template.{Template}
use Rattle.goals.specs.OfModel.{is_template, is_goal_kind}
use Rattle.scheduler.specs.declared.requests.GoalRequest.{GoalRequest}
use Rattle.scheduler.specs.InProgram.{IsRequest}

pub both_hold : (a b : Bool) → IsTrue (a && b) → IsTrue a × IsTrue b
both_hold true b h = (refl, h)
both_hold false b h = absurd (cc)

pub template_of : (request : GoalRequest) → IsRequest request → IsTrue (is_template request.model.now request.goal.now.template)
template_of request is =
    (both_hold (is_template request.model.now request.goal.now.template) (is_goal_kind request.model.now request.goal.now.kind) is.goal).0

-- ---- what it promises

nothing : {A : Type 0} (found : Option A) → IsTrue (not (is_some found)) → found ≡ None
nothing None h = refl
nothing (Some one) h = absurd (cc)

module _ (model : Parts) (template : Template) (good : IsTrue (is_template model template)) where
  parts : IsTrue (takes model.enums (slice_get model.activities template.kind) template.arguments)
      × IsTrue (not (is_some (unmet_of_type (slice_get model.activities template.kind) template.arguments)))
  parts =
      both_hold (takes model.enums (slice_get model.activities template.kind) template.arguments)
      (not (is_some (unmet_of_type (slice_get model.activities template.kind) template.arguments))) good

  pub taken_by : IsTrue (takes model.enums (slice_get model.activities template.kind) template.arguments)
  taken_by = parts.0

  pub met_by : unmet_of_type (slice_get model.activities template.kind) template.arguments ≡ None
  met_by = nothing (unmet_of_type (slice_get model.activities template.kind) template.arguments) parts.1
