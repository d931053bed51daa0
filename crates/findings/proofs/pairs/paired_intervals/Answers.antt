-- The spans of a run stand by their starts, and the intervals of a set of times rise.
use Rattle.std.proofs.Common.{◌≡◌, IfOk, List, arith, map, subst}
use Rattle.constraints.specs.SpansByStart.{in_order}
use Rattle.findings.specs.MeetingPairs.{paired_intervals}
use Rattle.findings.proofs.PairSweep.{rising_in_order}
use Rattle.run_data.specs.Spans.{SpanOf}
use Rattle.span_table.specs.AsDefined.{defined_span}
use Rattle.windows.specs.Times.{Interval}
use Rattle.findings.proofs.pairs.paired_intervals.Goals as goal

pub swept_intervals-requires-clause-order : goal.swept_intervals-requires-clause-order
swept_intervals-requires-clause-order c = in_order c.args.model.now c.args.run.now c.args.spans.now c.requires.spans.exact

pub swept_intervals-requires-clause-rising : goal.swept_intervals-requires-clause-rising
swept_intervals-requires-clause-rising c =
    rising_in_order c.args.times.now.reach 0 0 c.intervals-intervals.result.now (omega arith) c.intervals-intervals.ensures.in_order

pub returns : goal.returns
returns c =
    subst (λ (spans : List SpanOf).
    IfOk c.swept_intervals.result (λ made. made ≡ paired_intervals c.args.run.now.reach c.args.types.0 c.args.types.1 spans c.args.times.now.intervals))
    c.requires.spans.exact
    (subst (λ (intervals : List Interval).
    IfOk c.swept_intervals.result (λ made. made ≡ paired_intervals c.args.run.now.reach c.args.types.0 c.args.types.1 (map defined_span c.args.spans.now) intervals))
    c.intervals-intervals.ensures.value c.swept_intervals.ensures)
