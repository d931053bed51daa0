use Rattle.std.proofs.Common.{◌≡◌, ◌+◌, drop}
use Rattle.run_data.specs.Batches.{cost_of}
use Rattle.resimulate.proofs.costs.left_after_batch.Given as goal

-- the frames before this one are paid for
abbrev pub invariant-loop-frame : goal.invariant-loop-frame
invariant-loop-frame l = l.less + cost_of l.frames ≡ l.left + cost_of (drop l.frame-index l.frames)
