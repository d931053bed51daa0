-- Those so far.
use Rattle.std.proofs.Common.{◌≡◌, take}
use Rattle.findings.specs.PairSweep.{paths_begun}
use Rattle.findings.proofs.pairs.paths_begun.Given as goal

abbrev pub invariant-loop-one : goal.invariant-loop-one
invariant-loop-one l = l.paths ≡ paths_begun l.t (take l.one-index l.lasting)
