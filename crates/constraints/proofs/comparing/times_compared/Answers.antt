use Rattle.constraints.proofs.SpanTimes.{same_times_to}
use Rattle.constraints.proofs.SumTerms.{compared_sums}
use Rattle.constraints.proofs.comparing.times_compared.Goals as goal

pub returns-clause-times : goal.returns-clause-times
returns-clause-times c =
    same_times_to c.args.sources.now.run.now.reach _ _ _ _ c.in_ok-made.ensures.reach
    (compared_sums c.args.sources.now.model.now c.args.sources.now.run.now c.args.left.now c.args.right.now c.args.how.now c.in_ok-one.one c.in_ok-other.other c.in_ok-difference.difference c.as_slice-pieces.result.now
    c.in_ok-one.ensures c.in_ok-other.ensures c.in_ok-difference.ensures.values c.as_slice-pieces.ensures)
    c.in_ok-made.ensures.times
