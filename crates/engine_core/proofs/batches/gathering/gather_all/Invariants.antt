use Rattle.std.proofs.Common.{◌≤◌, length, drop}
use Rattle.engine_core.specs.BatchTrees.{rebuilt_roots, AreGathered}
use Rattle.engine_core.proofs.batches.gathering.gather_all.Given as goal

-- the tasks from `left` on are gathered
abbrev pub invariant-loop-left : goal.invariant-loop-left
invariant-loop-left l = record {
  within : l.left ≤ length l.roots;
  gathered : AreGathered l.cells (drop l.left (rebuilt_roots l.frames l.roots)) l.initial.gathering l.gathering;
}

abbrev pub decreases-loop-left : goal.decreases-loop-left
decreases-loop-left l = l.left
