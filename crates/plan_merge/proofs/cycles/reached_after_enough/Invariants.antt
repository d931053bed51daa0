-- Reached is what so many anchors reach, at least one.
use Rattle.std.proofs.Common.{◌≡◌, ◌-◌, ◌+◌, ℕ, suc, length}
use Rattle.plan_merge.specs.Reached.{reached_after}
use Rattle.plan_merge.proofs.cycles.reached_after_enough.Given as goal

abbrev pub invariant-loop-steps : goal.invariant-loop-steps
invariant-loop-steps g l = (less : ℕ) × ((l.steps ≡ suc less) × (l.reached.items ≡ reached_after (g.D.HasIds.as_directives l.directives) (suc less)))

abbrev pub decreases-loop-steps : goal.decreases-loop-steps
decreases-loop-steps g l = length l.directives + 1 - l.steps
