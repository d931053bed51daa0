use Rattle.aerie_base.specs.plans.OfModel.{IsPlanOf}
use Rattle.test_worlds.proofs.plans.plan_of.Given as goal

-- it is a plan of the model
abbrev pub invariant-loop-each : goal.invariant-loop-each
invariant-loop-each l = IsPlanOf l.model l.plan
