use Rattle.std.proofs.Common.{◌≤◌}
use Rattle.bench.proofs.OwnIndexes.{IsPassed}
use Rattle.bench.proofs.publishing.first_other.Given as goal

abbrev pub invariant-loop-index : goal.invariant-loop-index
invariant-loop-index l = record { onward : l.from ≤ l.next; own : IsPassed l.own l.from l.next }
