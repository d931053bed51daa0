-- The least so far, with the pairs that are left, is the least of all.
use Rattle.std.proofs.Common.{◌≡◌, drop}
use Rattle.findings.specs.MeetingPairs.{least_beside, least_pair, pairs_of}
use Rattle.findings.proofs.pairs.least_pair.Given as goal

abbrev pub invariant-loop-one : goal.invariant-loop-one
invariant-loop-one l = least_beside l.least (pairs_of (drop l.one-index l.ones) l.others) ≡ least_pair (pairs_of l.ones l.others)
