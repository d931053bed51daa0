-- The intervals so far, and both types swept up to the last of them.
use Rattle.std.proofs.Common.{◌≡◌, drop, map, take}
use Rattle.span_table.specs.AsDefined.{defined_span}
use Rattle.findings.specs.MeetingPairs.{paired_intervals}
use Rattle.findings.specs.PairSweep.{IsSweptFor}
use Rattle.findings.proofs.pairs.swept_intervals.Given as goal

abbrev pub invariant-loop-interval : goal.invariant-loop-interval
invariant-loop-interval l = record {
  made : l.made ≡ paired_intervals l.reach l.first l.second (map defined_span l.spans) (take l.interval-index l.intervals);
  one : IsSweptFor l.reach l.spans l.first (drop l.interval-index l.intervals) l.one;
  other : IsSweptFor l.reach l.spans l.second (drop l.interval-index l.intervals) l.other;
}
