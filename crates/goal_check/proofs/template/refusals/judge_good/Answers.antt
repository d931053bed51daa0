-- The values of a template of which nothing is refused are of the parameters' types.
use Rattle.std.proofs.Common.{IsTrue, slice_get, sym, subst}
use Rattle.aerie_base.specs.plans.OfModel.{takes}
use Rattle.goals.specs.declared.types.Template.{Template}
use Rattle.goal_check.proofs.ReadTemplates.{given_takes}
use Rattle.goal_check.proofs.template.refusals.judge_good.Goals as goal

pub judge_requires-requires : goal.judge_requires-requires
judge_requires-requires c =
    let model = c.args.model.now in
    subst (λ (template : Template). IsTrue (takes model.enums (slice_get model.activities template.kind) template.arguments)) (sym c.in_ok-meant.ensures)
    (given_takes model c.args.activity.now c.args.template.now c.name.ensures.valid c.read_parts_are_of_models.ensures.named c.read_parts_are_of_models.ensures.literals
    c.requires.named c.requires.given)
