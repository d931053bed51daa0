-- What is settled, with the changes that are left, is what is settled with all.
use Rattle.std.proofs.Common.{◌≡◌, drop}
use Rattle.findings.specs.SettledStates.{with_settled}
use Rattle.findings.proofs.cells.settle_changed.Given as goal

abbrev pub invariant-loop-one : goal.invariant-loop-one
invariant-loop-one l = with_settled l.time l.states.items (drop l.one-index l.changed) ≡ with_settled l.time l.initial.states.items l.changed
