use Rattle.std.proofs.Common.{◌≡◌, drop}
use Rattle.model_check.specs.Diagnostics.{noted}
use Rattle.model_check.specs.Invokes.{values_diagnostics}
use Rattle.model_check.proofs.invokes.note_values.Given as goal

abbrev pub invariant-loop-argument : goal.invariant-loop-argument
invariant-loop-argument l =
    noted l.found (values_diagnostics l.symbols l.scope (drop l.argument-index l.arguments)) ≡ noted l.initial.found (values_diagnostics l.symbols l.scope l.arguments)
