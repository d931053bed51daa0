use Rattle.std.proofs.Common.{drop}
use Rattle.constraints.proofs.SpanTimes.{Gathered}
use Rattle.constraints.proofs.span_times.type_times.Given as goal

-- the times of the spans so far were gathered
abbrev pub invariant-loop-span : goal.invariant-loop-span
invariant-loop-span l = Gathered l.reach l.kind l.covered.items (drop l.span-index l.spans) l.spans
