use Rattle.std.proofs.Common.{length, ◌-◌, drop}
use Rattle.windows.proofs.Splices.{Between}
use Rattle.windows.proofs.windows.splices.join_between.Given as goal

-- what was passed is put in, from the first time up to the second
abbrev pub invariant-loop-at : goal.invariant-loop-at
invariant-loop-at l = Between l.set.reach l.initial.intervals l.intervals (drop l.at l.source) l.source l.from l.to

abbrev pub decreases-loop-at : goal.decreases-loop-at
decreases-loop-at l = length l.source - l.at
