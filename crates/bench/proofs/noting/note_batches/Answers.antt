use Rattle.std.proofs.Common.{List, take, sym, subst, ◌∙◌}
use Rattle.std.specs.List.{All}
use Rattle.std.proofs.lemmas.List.{take_all}
use Rattle.aerie_base.specs.declared.models.model.Parts.{Parts}
use Rattle.run_data.specs.TaskFrames.{Frame}
use Rattle.run_data.specs.Records.{IsValid, record_of}
use Rattle.run_data.specs.RunFrames.{frames_in_batches}
use Rattle.record_book.specs.StoredSteps.{IsHeldIn}
use Rattle.bench.specs.Noting.{Notes}
use Rattle.bench.proofs.Extending.{first_few, firsts_same}
use Rattle.bench.proofs.NotedFrames.{batches_join, noted_more, of_item, of_frames_at}
use Rattle.bench.proofs.noting.note_batches.Goals as goal

pub loop-frames-preserved : goal.loop-frames-preserved
loop-frames-preserved c = record {
  model = c.in_ok-note_frames.ensures.model ∙ c.loop-frames.invariant.model;
  notes =
      noted_more frames_in_batches (λ frames. frames) batches_join c.args.batches.now c.loop-frames.frames-index c.frames-item.result c.args.first c.args.book.now.records c.loop-frames.book.records
      c.note_frames.new.book.records c.args.noted.now c.loop-frames.noted c.note_frames.new.noted c.requires.first c.loop-frames-test.true c.frames-item.is c.loop-frames.invariant.notes
      (subst (λ (frames : List Frame). Notes (take c.args.first c.loop-frames.book.records) frames c.loop-frames.book.records c.note_frames.new.book.records
      c.loop-frames.noted c.note_frames.new.noted) c.as_slice.ensures c.in_ok-note_frames.ensures.notes);
}

pub note_frames-requires-clause-valid : goal.note_frames-requires-clause-valid
note_frames-requires-clause-valid c =
    subst (λ (model : Parts). All (λ frame. IsValid model (record_of frame)) c.as_slice.result.now) (sym c.loop-frames.invariant.model)
    (subst (λ (frames : List Frame). All (λ frame. IsValid c.args.book.now.model (record_of frame)) frames) (sym c.as_slice.ensures)
    (of_item (All (λ frame. IsValid c.args.book.now.model (record_of frame))) c.args.batches.now c.loop-frames.frames-index c.frames-item.result
    c.loop-frames-test.true c.frames-item.is c.requires.valid))

pub note_frames-requires-clause-first : goal.note_frames-requires-clause-first
note_frames-requires-clause-first c = first_few c.args.first c.args.book.now.records c.loop-frames.book.records c.requires.first c.loop-frames.invariant.notes.extends

pub note_frames-requires-clause-old : goal.note_frames-requires-clause-old
note_frames-requires-clause-old c =
    firsts_same (λ records. All (IsHeldIn records) c.old_frames-beside.result.now) c.args.first c.args.book.now.records c.loop-frames.book.records c.requires.first
    c.loop-frames.invariant.notes.extends
    (subst (All (IsHeldIn (take c.args.first c.args.book.now.records))) (sym c.old_frames-beside.ensures)
    (of_frames_at (IsHeldIn (take c.args.first c.args.book.now.records)) c.args.old.now c.loop-frames.at c.requires.old))

pub returns-clause-notes : goal.returns-clause-notes
returns-clause-notes c =
    subst (λ batches. Notes (take c.args.first c.args.book.now.records) (frames_in_batches batches) c.args.book.now.records c.loop-frames.book.records c.args.noted.now c.loop-frames.noted)
    (take_all c.loop-frames.frames-index c.args.batches.now c.loop-frames-test.false) c.loop-frames.invariant.notes
