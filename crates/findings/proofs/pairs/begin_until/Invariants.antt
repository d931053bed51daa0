-- Of the spans so far those are kept that end after the time.
use Rattle.std.proofs.Common.{◌≡◌, map, take}
use Rattle.span_table.specs.AsDefined.{defined_span}
use Rattle.findings.specs.PairSweep.{ending_after}
use Rattle.findings.proofs.pairs.begin_until.Given as goal

abbrev pub invariant-loop-number : goal.invariant-loop-number
invariant-loop-number l = l.lasting ≡ ending_after l.reach l.kind l.t (map defined_span (take l.number l.spans))
