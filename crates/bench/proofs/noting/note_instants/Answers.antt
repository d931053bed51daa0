use Rattle.std.proofs.Common.{◌≡◌, List, take, ap, sym, subst, ◌∙◌}
use Rattle.std.specs.List.{All}
use Rattle.std.proofs.lemmas.List.{take_all}
use Rattle.aerie_base.specs.declared.models.model.Parts.{Parts}
use Rattle.run_data.specs.TaskFrames.{Frame}
use Rattle.run_data.specs.declared.runs.Instant.{Instant}
use Rattle.run_data.specs.Records.{IsValid, record_of}
use Rattle.run_data.specs.RunFrames.{frames_in_instants, frames_in_batches}
use Rattle.record_book.specs.StoredSteps.{IsHeldIn}
use Rattle.bench.specs.Noting.{Notes}
use Rattle.bench.proofs.Extending.{first_few, firsts_same}
use Rattle.bench.proofs.NotedFrames.{frames_of_instant, instants_join, noted_more, of_item, of_batches_at}
use Rattle.bench.proofs.noting.note_instants.Goals as goal

pub loop-instant-preserved : goal.loop-instant-preserved
loop-instant-preserved c = record {
  model = c.in_ok-note_batches.ensures.model ∙ c.loop-instant.invariant.model;
  notes =
      noted_more frames_in_instants frames_of_instant instants_join c.args.instants.now c.loop-instant.instant-index c.instant-item.result c.args.first c.args.book.now.records c.loop-instant.book.records
      c.note_batches.new.book.records c.args.noted.now c.loop-instant.noted c.note_batches.new.noted c.requires.first c.loop-instant-test.true c.instant-item.is c.loop-instant.invariant.notes
      (subst (λ (batches : List (List Frame)). Notes (take c.args.first c.loop-instant.book.records) (frames_in_batches batches) c.loop-instant.book.records
      c.note_batches.new.book.records c.loop-instant.noted c.note_batches.new.noted)
      (c.as_slice-batches.ensures ∙ ap (λ (one : Instant). one.batches) c.get-in-loop-instant.ensures) c.in_ok-note_batches.ensures.notes);
}

pub note_batches-requires-clause-valid : goal.note_batches-requires-clause-valid
note_batches-requires-clause-valid c =
    subst (λ (model : Parts). All (All (λ frame. IsValid model (record_of frame))) c.as_slice-batches.result.now) (sym c.loop-instant.invariant.model)
    (subst (λ (batches : List (List Frame)). All (All (λ frame. IsValid c.args.book.now.model (record_of frame))) batches) (sym batches_are)
    (of_item (λ (instant : Instant). All (All (λ frame. IsValid c.args.book.now.model (record_of frame))) instant.batches) c.args.instants.now
    c.loop-instant.instant-index c.instant-item.result c.loop-instant-test.true c.instant-item.is c.requires.valid))
  where
    batches_are : c.as_slice-batches.result.now ≡ c.instant-item.result.batches
    batches_are = c.as_slice-batches.ensures ∙ ap (λ (one : Instant). one.batches) c.get-in-loop-instant.ensures

pub note_batches-requires-clause-first : goal.note_batches-requires-clause-first
note_batches-requires-clause-first c = first_few c.args.first c.args.book.now.records c.loop-instant.book.records c.requires.first c.loop-instant.invariant.notes.extends

pub note_batches-requires-clause-old : goal.note_batches-requires-clause-old
note_batches-requires-clause-old c =
    firsts_same (λ records. All (All (IsHeldIn records)) c.old_batches-beside.result.now) c.args.first c.args.book.now.records c.loop-instant.book.records c.requires.first
    c.loop-instant.invariant.notes.extends
    (subst (All (All (IsHeldIn (take c.args.first c.args.book.now.records)))) (sym c.old_batches-beside.ensures)
    (of_batches_at (IsHeldIn (take c.args.first c.args.book.now.records)) c.args.old.now c.place_beside-place.result c.requires.old))

pub returns-clause-notes : goal.returns-clause-notes
returns-clause-notes c =
    subst (λ instants. Notes (take c.args.first c.args.book.now.records) (frames_in_instants instants) c.args.book.now.records c.loop-instant.book.records c.args.noted.now c.loop-instant.noted)
    (take_all c.loop-instant.instant-index c.args.instants.now c.loop-instant-test.false) c.loop-instant.invariant.notes
