use Rattle.constraints.proofs.Listing.{violations_more, violations_all}
use Rattle.constraints.proofs.judging.each_prepared.Goals as goal

pub loop-span-preserved : goal.loop-span-preserved
loop-span-preserved c =
    violations_more _ _ _ _ c.args.spans.now c.loop-span.span-index c.span-item.result _ _ c.loop-span-test.true c.span-item.is c.in_ok-put_if_of_type.ensures c.loop-span.invariant

pub returns : goal.returns
returns c = violations_all _ _ _ _ c.args.spans.now c.loop-span.span-index _ c.loop-span-test.false c.loop-span.invariant
