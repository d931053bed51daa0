-- One local more is one less to come, and at the end there is none to come.
use Rattle.std.proofs.Common.{◌∙◌, arith}
use Rattle.run_data.specs.TaskStates.{unset}
use Rattle.live_tasks.proofs.FilledLocals.{one_filled}
use Rattle.live_tasks.proofs.beginnings.filled.Goals as goal

pub loop-all-preserved : goal.loop-all-preserved
loop-all-preserved c =
    rw c.in_ok-push.ensures.pushed
    (rw c.unset.ensures (one_filled c.loop-all.all unset c.args.slots (omega arith) ∙ c.loop-all.invariant))
