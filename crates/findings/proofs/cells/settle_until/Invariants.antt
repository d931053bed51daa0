-- What is settled, with the instants that are left, is what is settled with all.
use Rattle.std.proofs.Common.{◌≡◌, drop}
use Rattle.findings.specs.SettledStates.{settled_until}
use Rattle.findings.proofs.cells.settle_until.Given as goal

abbrev pub invariant-loop-instant : goal.invariant-loop-instant
invariant-loop-instant l = settled_until l.t l.states.items (drop l.instant-index l.instants) ≡ settled_until l.t l.initial.states.items l.instants
