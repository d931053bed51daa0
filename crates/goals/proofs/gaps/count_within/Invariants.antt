-- Those counted so far, and those behind.
use Rattle.std.proofs.Common.{◌≡◌, ◌+◌, ◌≤◌, drop}
use Rattle.goals.specs.Gaps.{count_within as counted_within}
use Rattle.goals.proofs.gaps.count_within.Given as goal

abbrev pub invariant-loop-start : goal.invariant-loop-start
invariant-loop-start l = record {
  counted : l.count + counted_within l.from l.to (drop l.start-index l.starts) ≡ counted_within l.from l.to l.starts;
  small : l.count ≤ l.start-index;
}
