use Rattle.std.proofs.Common.{take}
use Rattle.live_tasks.specs.Waits.{IsTouched}
use Rattle.live_tasks.proofs.waits.Waits.touch.Given as goal

abbrev pub invariant-loop-cell : goal.invariant-loop-cell
invariant-loop-cell l = IsTouched (take l.cell-index l.touched) l.initial.self l.self
