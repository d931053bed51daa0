use Rattle.std.proofs.Common.{take, sym, subst, ◌∙◌}
use Rattle.std.specs.List.{All}
use Rattle.std.proofs.lemmas.List.{take_all}
use Rattle.aerie_base.specs.declared.models.model.Parts.{Parts}
use Rattle.run_data.specs.Records.{IsValid, record_of}
use Rattle.record_book.specs.StoredSteps.{IsHeldIn}
use Rattle.bench.specs.Noting.{Notes}
use Rattle.bench.proofs.Extending.{first_few, firsts_same}
use Rattle.bench.proofs.NotedFrames.{alone, frames_join, noted_more, of_item}
use Rattle.bench.proofs.noting.note_frames.Goals as goal

pub loop-frame-preserved : goal.loop-frame-preserved
loop-frame-preserved c = record {
  model = c.in_ok-note_beside.ensures.model ∙ c.loop-frame.invariant.model;
  notes =
      noted_more (λ frames. frames) alone frames_join c.args.frames.now c.loop-frame.frame-index c.frame-item.result c.args.first c.args.book.now.records c.loop-frame.book.records
      c.note_beside.new.book.records c.args.noted.now c.loop-frame.noted c.note_beside.new.noted c.requires.first c.loop-frame-test.true c.frame-item.is c.loop-frame.invariant.notes
      c.in_ok-note_beside.ensures.notes;
}

pub note_beside-requires-clause-valid : goal.note_beside-requires-clause-valid
note_beside-requires-clause-valid c =
    subst (λ (model : Parts). IsValid model (record_of c.frame-item.result)) (sym c.loop-frame.invariant.model)
    (of_item (λ frame. IsValid c.args.book.now.model (record_of frame)) c.args.frames.now c.loop-frame.frame-index c.frame-item.result
    c.loop-frame-test.true c.frame-item.is c.requires.valid)

pub note_beside-requires-clause-first : goal.note_beside-requires-clause-first
note_beside-requires-clause-first c = first_few c.args.first c.args.book.now.records c.loop-frame.book.records c.requires.first c.loop-frame.invariant.notes.extends

pub note_beside-requires-clause-old : goal.note_beside-requires-clause-old
note_beside-requires-clause-old c =
    firsts_same (λ records. All (IsHeldIn records) c.args.old.now) c.args.first c.args.book.now.records c.loop-frame.book.records c.requires.first
    c.loop-frame.invariant.notes.extends c.requires.old

pub returns-clause-notes : goal.returns-clause-notes
returns-clause-notes c =
    subst (λ frames. Notes (take c.args.first c.args.book.now.records) frames c.args.book.now.records c.loop-frame.book.records c.args.noted.now c.loop-frame.noted)
    (take_all c.loop-frame.frame-index c.args.frames.now c.loop-frame-test.false) c.loop-frame.invariant.notes
