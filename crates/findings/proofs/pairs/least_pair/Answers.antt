-- The pairs of one path more.
use Rattle.std.proofs.Common.{◌∙◌}
use Rattle.findings.proofs.LeastPairs.{least_goes_on}
use Rattle.findings.proofs.pairs.least_pair.Goals as goal

pub loop-one-preserved : goal.loop-one-preserved
loop-one-preserved c =
    least_goes_on c.args.ones.now c.args.others.now c.loop-one.one-index c.one-item.result c.loop-one.least c.take_pairs_with.new.least c.loop-one-test.true c.one-item.is
    c.in_ok-take_pairs_with.ensures
    ∙ c.loop-one.invariant
