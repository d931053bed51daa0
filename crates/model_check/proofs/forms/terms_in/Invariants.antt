use Rattle.std.proofs.Common.{◌≡◌, ◌++◌, drop}
use Rattle.model_check.specs.LinearForms.{terms_in}
use Rattle.model_check.proofs.forms.terms_in.Given as goal

abbrev pub invariant-loop-leaf : goal.invariant-loop-leaf
invariant-loop-leaf l = l.terms ++ terms_in (drop l.leaf-index l.leaves) ≡ terms_in l.leaves
