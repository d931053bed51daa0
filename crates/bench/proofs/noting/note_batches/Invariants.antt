use Rattle.std.proofs.Common.{◌≡◌, take}
use Rattle.run_data.specs.RunFrames.{frames_in_batches}
use Rattle.bench.specs.Noting.{Notes}
use Rattle.bench.proofs.noting.note_batches.Given as goal

abbrev pub invariant-loop-frames : goal.invariant-loop-frames
invariant-loop-frames l = record {
  model : l.book.model ≡ l.initial.book.model;
  notes : Notes (take l.first l.initial.book.records) (frames_in_batches (take l.frames-index l.batches)) l.initial.book.records l.book.records l.initial.noted l.noted;
}
