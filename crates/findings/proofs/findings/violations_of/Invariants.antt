-- Those of the constraints so far.
use Rattle.std.proofs.Common.{◌≡◌, take}
use Rattle.findings.specs.Found.{all_violations}
use Rattle.findings.proofs.findings.violations_of.Given as goal

abbrev pub invariant-loop-constraint : goal.invariant-loop-constraint
invariant-loop-constraint l = l.found ≡ take l.constraint-index (all_violations l.model l.run l.constraints)
