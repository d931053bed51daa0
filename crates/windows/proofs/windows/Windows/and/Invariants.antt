use Rattle.std.proofs.Common.{◌+◌, ◌-◌, length, drop}
use Rattle.windows.proofs.Both.{Merges, in_both}
use Rattle.windows.proofs.windows.Windows.and.Given as goal

-- what both have is put in as far as one of the two was passed
abbrev pub invariant-loop-at_left : goal.invariant-loop-at_left
invariant-loop-at_left l = Merges l.self.reach l.intervals (drop l.at_left l.left) (drop l.at_right l.right) (in_both l.left l.right)

abbrev pub decreases-loop-at_left : goal.decreases-loop-at_left
decreases-loop-at_left l = (length l.left - l.at_left) + (length l.right - l.at_right)
