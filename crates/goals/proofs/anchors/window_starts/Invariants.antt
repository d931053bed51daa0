-- The starts of the intervals so far, and of those behind.
use Rattle.std.proofs.Common.{◌≡◌, ◌++◌, drop}
use Rattle.goals.specs.Anchors.{interval_starts}
use Rattle.goals.proofs.anchors.window_starts.Given as goal

abbrev pub invariant-loop-interval : goal.invariant-loop-interval
invariant-loop-interval l = l.starts.items ++ interval_starts (drop l.interval-index l.interval-items) ≡ interval_starts l.interval-items
