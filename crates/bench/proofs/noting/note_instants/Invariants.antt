use Rattle.std.proofs.Common.{◌≡◌, take}
use Rattle.run_data.specs.RunFrames.{frames_in_instants}
use Rattle.bench.specs.Noting.{Notes}
use Rattle.bench.proofs.noting.note_instants.Given as goal

abbrev pub invariant-loop-instant : goal.invariant-loop-instant
invariant-loop-instant l = record {
  model : l.book.model ≡ l.initial.book.model;
  notes : Notes (take l.first l.initial.book.records) (frames_in_instants (take l.instant-index l.instants)) l.initial.book.records l.book.records l.initial.noted l.noted;
}
