-- The segments before the reach are those so far and those among the ones that are left.
use Rattle.std.proofs.Common.{◌≡◌, ◌++◌, drop}
use Rattle.dataset_in.specs.Levels.{before}
use Rattle.dataset_in.proofs.series.linear_before.Given as goal

abbrev pub invariant-loop-segment : goal.invariant-loop-segment
invariant-loop-segment l = before l.fn.reach l.segments ≡ l.before_reach.items ++ before l.fn.reach (drop l.segment-index l.segments)
