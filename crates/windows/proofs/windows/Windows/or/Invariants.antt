use Rattle.std.proofs.Common.{◌+◌, ◌-◌, ◌≤◌, length, drop}
use Rattle.windows.proofs.Either.{Unites, in_either}
use Rattle.windows.proofs.windows.Windows.or.Given as goal

-- what was passed of both is put in
abbrev pub invariant-merge : goal.invariant-merge
invariant-merge l = record {
  unites : Unites l.self.reach l.intervals (drop l.at_left l.left) (drop l.at_right l.right) (in_either l.left l.right);
  on_left : l.at_left ≤ length l.left;
  on_right : l.at_right ≤ length l.right;
}

abbrev pub decreases-merge : goal.decreases-merge
decreases-merge l = (length l.left - l.at_left) + (length l.right - l.at_right)
