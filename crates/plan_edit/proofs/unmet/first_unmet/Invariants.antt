-- Those before are met.
use Rattle.std.proofs.Common.{◌≡◌, drop}
use Rattle.plan_edit.specs.Requires.{first_unmet as first_unmet_by}
use Rattle.plan_edit.proofs.unmet.first_unmet.Given as goal

abbrev pub invariant-loop-number : goal.invariant-loop-number
invariant-loop-number l = first_unmet_by 0 l.values l.exprs ≡ first_unmet_by l.number l.values (drop l.number l.exprs)
