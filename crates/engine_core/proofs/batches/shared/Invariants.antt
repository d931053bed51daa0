use Rattle.std.proofs.Common.{◌≡◌, take}
use Rattle.engine_core.proofs.batches.shared.Given as goal

abbrev pub invariant-loop-frame : goal.invariant-loop-frame
invariant-loop-frame l = l.shared.items ≡ take l.frame-index l.frames
