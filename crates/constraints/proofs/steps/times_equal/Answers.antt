use Rattle.std.proofs.Common.{List, ap, ◌∙◌}
use Rattle.windows.specs.Times.{Interval, contains}
use Rattle.constraints.specs.Holding.{equals_or_not}
use Rattle.constraints.proofs.SpanTimes.{same_times_to}
use Rattle.constraints.proofs.StepTimes.{passing_more, passing_all}
use Rattle.constraints.proofs.steps.times_equal.Goals as goal

pub loop-at-preserved : goal.loop-at-preserved
loop-at-preserved c =
    passing_more c.args.reach _ c.args.steps.now _ _ _ _ _ _ c.loop-at-test.true c.index-steps-at.is (c.is_equal-test.ensures ∙ ap (equals_or_not c.args.equal) c.same_value-same.ensures)
    c.end_of-end.ensures c.in_ok-put_if.ensures c.loop-at.invariant

pub returns-clause-times : goal.returns-clause-times
returns-clause-times c =
    same_times_to c.args.reach _ _ _ _ c.in_ok-made.ensures.reach
    (λ t below. ap (λ (l : List Interval). contains l t) c.as_slice-found.ensures.value ∙ passing_all c.args.reach _ c.args.steps.now _ _ c.loop-at-test.false c.loop-at.invariant c.requires.steps t below) c.in_ok-made.ensures.times
