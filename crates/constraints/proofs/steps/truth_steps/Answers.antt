use Rattle.constraints.specs.Steps.{truth_step}
use Rattle.constraints.proofs.Mapping.{mapped_more, mapped_all}
use Rattle.constraints.proofs.steps.truth_steps.Goals as goal

pub loop-entry-preserved : goal.loop-entry-preserved
loop-entry-preserved c =
    mapped_more truth_step c.args.entries.now c.loop-entry.entry-index c.entry-item.result _ _ c.truth_step-step.result c.loop-entry-test.true c.entry-item.is c.truth_step-step.ensures c.in_ok-push.ensures.pushed c.loop-entry.invariant

pub returns : goal.returns
returns c = mapped_all truth_step c.args.entries.now c.loop-entry.entry-index _ c.loop-entry-test.false c.loop-entry.invariant
