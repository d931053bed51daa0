use Rattle.constraints.specs.Steps.{flat}
use Rattle.constraints.proofs.FlatPieces.{numbers_more}
use Rattle.constraints.proofs.Mapping.{mapped_more, mapped_all}
use Rattle.constraints.proofs.steps.flat_segments.Goals as goal

pub loop-step-preserved : goal.loop-step-preserved
loop-step-preserved c = (
  mapped_more flat c.args.steps.now c.loop-step.step-index c.step-item.result _ _ c.flat_segment-piece.result c.loop-step-test.true c.step-item.is c.flat_segment-piece.ensures.value c.in_ok-push.ensures.pushed c.loop-step.invariant.0,
  numbers_more _ _ c.flat_segment-piece.result c.loop-step.invariant.1 c.flat_segment-piece.ensures.range c.in_ok-push.ensures.pushed,
)

pub returns-clause-exact : goal.returns-clause-exact
returns-clause-exact c = mapped_all flat c.args.steps.now c.loop-step.step-index _ c.loop-step-test.false c.loop-step.invariant.0
