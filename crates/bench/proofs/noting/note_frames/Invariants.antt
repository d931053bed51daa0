use Rattle.std.proofs.Common.{◌≡◌, take}
use Rattle.bench.specs.Noting.{Notes}
use Rattle.bench.proofs.noting.note_frames.Given as goal

abbrev pub invariant-loop-frame : goal.invariant-loop-frame
invariant-loop-frame l = record {
  model : l.book.model ≡ l.initial.book.model;
  notes : Notes (take l.first l.initial.book.records) (take l.frame-index l.frames) l.initial.book.records l.book.records l.initial.noted l.noted;
}
