-- The gap behind the point is that of all.
use Rattle.std.proofs.Common.{◌≡◌, ◌++◌, ◌∷◌, [], drop}
use Rattle.goals.specs.Gaps.{first_far, starts_within, recurrence_gap as first_recurrence_gap}
use Rattle.goals.proofs.gaps.recurrence_gap.Given as goal

abbrev pub invariant-loop-start : goal.invariant-loop-start
invariant-loop-start l =
    first_far l.every l.point (starts_within l.from l.to (drop l.start-index l.starts) ++ l.to ∷ []) ≡ first_recurrence_gap l.every l.from l.to l.starts
