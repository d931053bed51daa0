use Rattle.std.proofs.Common.{◌≡◌, length}
use Rattle.effect_cells.specs.Gathering.{AreBlank}
use Rattle.effect_cells.proofs.pending.nothing_pending.Given as goal

-- nothing is pending on the cells so far
abbrev pub invariant-loop-state : goal.invariant-loop-state
invariant-loop-state l = record {
  blank : AreBlank l.pending.items;
  same : length l.pending.items ≡ l._state-index;
}
