use Rattle.std.proofs.Common.{◌≡◌, ◌++◌, drop}
use Rattle.model_check.specs.Diagnostics.{noted}
use Rattle.model_check.specs.ModelDiagnostics.{requires_diagnostics}
use Rattle.model_check.specs.ModelMeaning.{model_requires}
use Rattle.model_check.proofs.bodies.requirements.Given as goal

abbrev pub invariant-loop-truth : goal.invariant-loop-truth
invariant-loop-truth l =
    (l.made ++ model_requires l.bare l.scope (drop l.truth-index l.written) ≡ model_requires l.bare l.scope l.written)
    × (noted l.found (requires_diagnostics l.bare l.scope (drop l.truth-index l.written)) ≡ noted l.initial.found (requires_diagnostics l.bare l.scope l.written))
