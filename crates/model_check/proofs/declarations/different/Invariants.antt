use Rattle.std.proofs.Common.{◌≡◌, drop, []}
use Rattle.model_check.specs.ModelSymbols.{with_names}
use Rattle.model_check.proofs.declarations.different.Given as goal

abbrev pub invariant-loop-name : goal.invariant-loop-name
invariant-loop-name l = with_names l.set (drop l.name-index l.names) ≡ with_names [] l.names
