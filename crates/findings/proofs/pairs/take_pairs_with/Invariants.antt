-- The least so far, with the pairs that are left, is the least of all.
use Rattle.std.proofs.Common.{◌≡◌, drop}
use Rattle.findings.specs.MeetingPairs.{least_beside, pairs_with}
use Rattle.findings.proofs.pairs.take_pairs_with.Given as goal

abbrev pub invariant-loop-other : goal.invariant-loop-other
invariant-loop-other l = least_beside l.least (pairs_with l.one (drop l.other-index l.others)) ≡ least_beside l.initial.least (pairs_with l.one l.others)
