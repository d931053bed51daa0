-- The violations are found in order.
use Rattle.constraints.specs.Violating.{violations_of}
use Rattle.profiles.specs.InOrder.{made_of}
use Rattle.findings.proofs.findings.violations_of.Goals as goal

pub loop-constraint-preserved : goal.loop-constraint-preserved
loop-constraint-preserved c =
    made_of (violations_of c.args.model.now c.args.run.now) c.args.constraints.now c.loop-constraint.constraint-index c.constraint-item.result _ _ _
    c.loop-constraint-test.true c.constraint-item.is c.in_ok-one.ensures c.in_ok-push.ensures.pushed c.loop-constraint.invariant
