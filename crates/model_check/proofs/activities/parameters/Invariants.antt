use Rattle.std.proofs.Common.{◌≡◌, ◌++◌, drop}
use Rattle.model_check.specs.Diagnostics.{noted}
use Rattle.model_check.specs.ModelDiagnostics.{parameter_scope, parameters_diagnostics}
use Rattle.model_check.specs.ModelMeaning.{model_parameters}
use Rattle.model_check.proofs.activities.parameters.Given as goal

abbrev pub invariant-loop-raw : goal.invariant-loop-raw
invariant-loop-raw l =
    (parameter_scope l.symbols l.scope (drop l.raw-index l.written) ≡ parameter_scope l.symbols l.initial.scope l.written)
    × (l.made ++ model_parameters l.symbols (drop l.raw-index l.written) ≡ model_parameters l.symbols l.written)
    × (noted l.found (parameters_diagnostics l.symbols l.scope (drop l.raw-index l.written)) ≡ noted l.initial.found (parameters_diagnostics l.symbols l.initial.scope l.written))
