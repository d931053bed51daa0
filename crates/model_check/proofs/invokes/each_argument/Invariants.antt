use Rattle.std.proofs.Common.{◌≡◌, drop}
use Rattle.model_check.specs.Diagnostics.{noted}
use Rattle.model_check.specs.GivenArguments.{given_with_all, arguments_found}
use Rattle.model_check.proofs.invokes.each_argument.Given as goal

abbrev pub invariant-loop-raw : goal.invariant-loop-raw
invariant-loop-raw l =
    (given_with_all l.symbols l.scope l.parameters l.given.items (drop l.raw-index l.arguments) ≡ given_with_all l.symbols l.scope l.parameters l.initial.given.items l.arguments)
    × (noted l.found (arguments_found l.symbols l.scope l.parameters l.given.items (drop l.raw-index l.arguments)) ≡ noted l.initial.found (arguments_found l.symbols l.scope l.parameters l.initial.given.items l.arguments))
