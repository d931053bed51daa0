use Rattle.std.proofs.Common.{sym, subst}
use Rattle.aerie_base.specs.plans.OfModel.{IsPlanOf}
use Rattle.plan_edit.proofs.Additions.{added_plan}
use Rattle.plan_edit.proofs.adding.add.Goals as goal

pub returns-clause-plan : goal.returns-clause-plan
returns-clause-plan c =
    subst (IsPlanOf c.args.model.now) (sym c.in_ok-push.ensures.pushed)
    (added_plan c.args.model.now c.new_directive.ensures.valid c.args.plan.now c.requires.plan c.args.at c.args.kind.now c.args.arguments.now c.in_ok-directive.directive c.in_ok-directive.ensures.made)
