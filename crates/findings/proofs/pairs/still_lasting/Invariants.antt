-- Those so far.
use Rattle.std.proofs.Common.{◌≡◌, take}
use Rattle.findings.specs.PairSweep.{still_lasting}
use Rattle.findings.proofs.pairs.still_lasting.Given as goal

abbrev pub invariant-loop-one : goal.invariant-loop-one
invariant-loop-one l = l.still ≡ still_lasting l.t (take l.one-index l.lasting)
