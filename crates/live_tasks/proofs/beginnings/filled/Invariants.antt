use Rattle.std.proofs.Common.{◌≡◌, ◌++◌, ◌-◌, length, replicate}
use Rattle.run_data.specs.TaskStates.{unset}
use Rattle.live_tasks.proofs.beginnings.filled.Given as goal

-- what is there, filled up, is what was there, filled up
abbrev pub invariant-loop-all : goal.invariant-loop-all
invariant-loop-all l = l.all ++ replicate (l.slots - length l.all) unset ≡ l.fn.locals ++ replicate (l.slots - length l.fn.locals) unset

abbrev pub decreases-loop-all : goal.decreases-loop-all
decreases-loop-all l = l.slots - length l.all
