-- Those left out so far are before the time.
use Rattle.std.proofs.Common.{◌≡◌, ◌-◌, ◌≤◌, drop, length}
use Rattle.goals.specs.Merging.{from_time as starts_from}
use Rattle.goals.proofs.gaps.from_time.Given as goal

abbrev pub decreases-loop-at : goal.decreases-loop-at
decreases-loop-at l = length l.starts - l.at

abbrev pub invariant-loop-at : goal.invariant-loop-at
invariant-loop-at l = record {
  within : l.at ≤ length l.starts;
  left : starts_from l.earliest (drop l.at l.starts) ≡ starts_from l.earliest l.starts;
}
