use Rattle.std.proofs.Common.{◌≡◌, ◌++◌, drop}
use Rattle.scheduler.specs.Scheduling.{statuses_on}
use Rattle.scheduler.proofs.progress.statuses.Given as goal

-- the statuses so far and those of the goals that are left are those of all goals
abbrev pub invariant-loop-at : goal.invariant-loop-at
invariant-loop-at l = l.statuses ++ statuses_on l.model l.run (drop l.at l.goals) (drop l.at l.parts) ≡ statuses_on l.model l.run l.goals l.parts
