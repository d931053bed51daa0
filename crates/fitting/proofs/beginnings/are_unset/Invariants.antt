use Rattle.std.proofs.Common.{◌≡◌, take, replicate}
use Rattle.run_data.specs.TaskStates.{unset}
use Rattle.fitting.proofs.beginnings.are_unset.Given as goal

-- those that were looked at are not set
abbrev pub invariant-loop-value : goal.invariant-loop-value
invariant-loop-value l = take l.value-index l.locals ≡ replicate l.value-index unset
