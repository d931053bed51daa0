use Rattle.std.proofs.Common.{◌≡◌, replicate}
use Rattle.session_run.proofs.client_benches.client_benches.Given as goal

abbrev pub invariant-loop-number : goal.invariant-loop-number
invariant-loop-number l = l.benches.items ≡ replicate l.number l.bound
