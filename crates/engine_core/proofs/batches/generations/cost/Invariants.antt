use Rattle.std.proofs.Common.{◌≡◌, ◌+◌, ◌≤◌, min, drop}
use Rattle.run_data.specs.Batches.{cost_of}
use Rattle.run_data.specs.Waves.{last_count}
use Rattle.engine_core.proofs.batches.generations.cost.Given as goal

abbrev pub invariant-loop-frame : goal.invariant-loop-frame
invariant-loop-frame l = record {
  whole : min (l.sum + cost_of (drop l.frame-index l.frames)) last_count ≡ min (cost_of l.frames) last_count;
  fits : l.sum ≤ last_count;
}
