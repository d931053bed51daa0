use Rattle.test_worlds.proofs.plans.plan_of.Goals as goal

pub loop-each-init : goal.loop-each-init
loop-each-init c = c.empty_plan-plan.ensures.plan c.args.model.now
