use Rattle.std.proofs.Common.{◌≡◌, ◌+◌, [], map, drop, length}
use Rattle.std.specs.Vec.Iter.{into_iter_items, into_iter_len}
use Rattle.run_data.specs.laws.Generations.{beside_generation, pending_of}
use Rattle.run_data.specs.laws.WaveGenerations.{generation_of}
use Rattle.engine_core.specs.BatchGenerations.{gathered_so_far}
use Rattle.engine_core.proofs.batches.generations.add_each.Given as goal

-- what there is, with what is left, is all with what there was
abbrev pub invariant-loop-frame : goal.invariant-loop-frame
invariant-loop-frame l = record {
  left : into_iter_items l.frame-iterator ≡ drop l.at l.fn.frames;
  count : into_iter_len l.frame-iterator + l.at ≡ length l.fn.frames;
  made :
      beside_generation (gathered_so_far l.made.items l.dues) (generation_of l.model (map pending_of (drop l.at l.jobs)) (drop l.at l.fn.frames))
      ≡ beside_generation (gathered_so_far l.initial.made.items []) (generation_of l.model (map pending_of l.jobs) l.fn.frames);
}
