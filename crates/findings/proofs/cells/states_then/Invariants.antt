-- The states so far.
use Rattle.std.proofs.Common.{◌≡◌, take}
use Rattle.findings.specs.SettledStates.{states_then}
use Rattle.findings.proofs.cells.states_then.Given as goal

abbrev pub invariant-loop-settled : goal.invariant-loop-settled
invariant-loop-settled l = l.cells ≡ states_then l.t (take l.settled-index l.states)
