use Rattle.std.proofs.Common.{◌≡◌, ◌+ℤ◌, ◌*◌, ◌^◌, ◌≤◌, drop}
use Rattle.std.specs.Int.RustNames.{unsigned_abs}
use Rattle.model_check.specs.LinearForms.{constants_in}
use Rattle.model_check.proofs.forms.constants_in.Given as goal

abbrev pub invariant-loop-leaf : goal.invariant-loop-leaf
invariant-loop-leaf l =
    (l.sum +ℤ constants_in (drop l.leaf-index l.leaves) ≡ constants_in l.leaves) × (unsigned_abs l.sum ≤ l.leaf-index * 2 ^ 63)
