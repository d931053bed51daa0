use Rattle.std.proofs.Common.{List, sym, subst}
use Rattle.aerie_base.specs.declared.plans.Directive.{Directive}
use Rattle.aerie_base.specs.plans.OfModel.{IsPlanOf}
use Rattle.test_worlds.proofs.EmptyPlans.{empty_is, plan_with}
use Rattle.test_worlds.proofs.plans.empty_plan.Goals as goal

pub returns-clause-plan : goal.returns-clause-plan
returns-clause-plan c = λ model.
    subst (λ (directives : List Directive). IsPlanOf model (plan_with c.args.duration c.args.next_id directives)) (sym c.new.ensures)
    (empty_is model c.args.duration c.args.next_id c.requires.duration c.requires.next_id)
