use Rattle.std.proofs.Common.{List, ◌∙◌, ap}
use Rattle.windows.specs.Times.{Interval, contains}
use Rattle.constraints.proofs.SpanTimes.{same_times_to}
use Rattle.constraints.proofs.Sweeping.{swept_none, swept_more, swept_times}
use Rattle.constraints.proofs.meeting.meetings.Goals as goal

pub loop-span-init : goal.loop-span-init
loop-span-init c = swept_none c.args.reach c.args.one c.args.other _ _ c.args.spans.now c.new-times.ensures.items c.no_ends-ends.ensures

pub loop-span-preserved : goal.loop-span-preserved
loop-span-preserved c =
    swept_more c.args.reach c.args.one c.args.other c.args.spans.now c.loop-span.span-index c.span-item.result _ _ _ _ c.loop-span-test.true c.span-item.is c.in_ok-put_meetings.ensures c.ends_with-ends.ensures c.loop-span.invariant

pub returns-clause-times : goal.returns-clause-times
returns-clause-times c =
    same_times_to c.args.reach _ _ _ _ c.in_ok-made.ensures.reach
    (λ t below.
    ap (λ (l : List Interval). contains l t) c.as_slice-found.ensures.value
    ∙ swept_times c.args.reach c.args.one c.args.other c.args.spans.now c.loop-span.span-index _ _ c.loop-span-test.false c.requires.order c.requires.paths c.loop-span.invariant t below)
    c.in_ok-made.ensures.times
