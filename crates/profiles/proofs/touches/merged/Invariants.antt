use Rattle.std.proofs.Common.{◌≡◌, ◌≤◌, ◌+◌, ◌-◌, ◌++◌, drop, length}
use Rattle.profiles.specs.Touches.{merge}
use Rattle.profiles.proofs.touches.merged.Given as goal

-- what is merged, and what is left of both
abbrev pub invariant-loop-at : goal.invariant-loop-at
invariant-loop-at l = record {
  at_most : l.at ≤ length l.one;
  beside_most : l.beside ≤ length l.other;
  whole : l.merged.items ++ merge (drop l.at l.one) (drop l.beside l.other) ≡ merge l.one l.other;
}

abbrev pub decreases-loop-at : goal.decreases-loop-at
decreases-loop-at l = (length l.one - l.at) + (length l.other - l.beside)
