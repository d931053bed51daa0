use Rattle.std.proofs.Common.{◌≡◌, None, replicate}
use Rattle.model_check.proofs.invokes.no_arguments.Given as goal

abbrev pub invariant-loop : goal.invariant-loop
invariant-loop l = l.given.items ≡ replicate l.counter None
