use Rattle.std.proofs.Common.{◌≡◌, drop}
use Rattle.engine_core.specs.BatchOrders.{first_fault}
use Rattle.engine_core.proofs.batches.faults.first_fault.Given as goal

-- no frame that was passed has faulted
abbrev pub invariant-loop-frame : goal.invariant-loop-frame
invariant-loop-frame l = first_fault (drop l.frame-index l.frames) ≡ first_fault l.frames
