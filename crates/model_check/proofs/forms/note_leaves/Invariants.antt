use Rattle.std.proofs.Common.{◌≡◌, drop}
use Rattle.model_check.specs.Diagnostics.{noted}
use Rattle.model_check.specs.LinearForms.{leaves_diagnostics}
use Rattle.model_check.proofs.forms.note_leaves.Given as goal

abbrev pub invariant-loop-index : goal.invariant-loop-index
invariant-loop-index l =
    noted l.found (leaves_diagnostics l.index (drop l.index l.leaves)) ≡ noted l.initial.found (leaves_diagnostics 0 l.leaves)
