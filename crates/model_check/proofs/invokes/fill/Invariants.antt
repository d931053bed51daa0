use Rattle.std.proofs.Common.{◌≡◌, ◌++◌, drop, length}
use Rattle.model_check.specs.Diagnostics.{noted}
use Rattle.model_check.specs.GivenArguments.{filled_values, missing_found}
use Rattle.model_check.proofs.invokes.fill.Given as goal

abbrev pub invariant-loop-number : goal.invariant-loop-number
invariant-loop-number l =
    (length l.given.items ≡ length l.parameters)
    × (l.arguments ++ filled_values (drop l.number l.parameters) (drop l.number l.given.items) ≡ filled_values l.parameters l.initial.given.items)
    × (noted l.found (missing_found l.at (drop l.number l.parameters) (drop l.number l.given.items)) ≡ noted l.initial.found (missing_found l.at l.parameters l.initial.given.items))
