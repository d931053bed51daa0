use Rattle.std.proofs.Common.{◌≡◌, [], drop}
use Rattle.model_check.specs.Diagnostics.{noted}
use Rattle.model_check.specs.ModelDiagnostics.{repeated_diagnostics}
use Rattle.model_check.proofs.repeats.note_all_repeated.Given as goal

abbrev pub invariant-loop-name : goal.invariant-loop-name
invariant-loop-name l =
    noted l.found (repeated_diagnostics l.earlier (drop l.name-index l.names)) ≡ noted l.initial.found (repeated_diagnostics [] l.names)
