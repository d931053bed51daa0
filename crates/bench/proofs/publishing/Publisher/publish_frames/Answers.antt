use Rattle.std.proofs.Common.{◌≤◌, List, [], ◌∷◌, ◌++◌, inr, length, refl, sym, subst, ap, ◌∙◌}
use Rattle.std.specs.List.{All}
use Rattle.history_store.specs.Publishing.{receipt_of}
use Rattle.record_book.specs.StoredSteps.{chapter_limit}
use Rattle.run_data.specs.TaskFrames.{Frame}
use Rattle.run_data.specs.Records.{IsValid, record_of}
use Rattle.bench.specs.Chapters.{GainsChapters, chapter_of}
use Rattle.bench.proofs.PublishedChapters.{all_published, few, gains, nothing_published, of_part, published_more}
use Rattle.bench.proofs.publishing.Publisher.publish_frames.Goals as goal

pub loop-from-init : goal.loop-from-init
loop-from-init g c = nothing_published c.args.store.now c.args.model.now c.args.frames.now c.args.self.now c.args.self.now refl

pub loop-from-preserved : goal.loop-from-preserved
loop-from-preserved g c =
    published_more c.args.store.now c.args.model.now c.args.frames.now c.loop-from.from c.chapter_end-to.result c.chapter_end-to.ensures c.args.self.now
    c.loop-from.self c.publish_chapter.new.self c.loop-from.invariant
    (c.in_ok-publish_chapter.ensures.published
    ∙ ap (λ frames. c.loop-from.self ++ receipt_of c.args.store.now (chapter_of c.args.model.now frames) ∷ []) c.part_of-part.ensures)

pub publish_chapter-requires-clause-few : goal.publish_chapter-requires-clause-few
publish_chapter-requires-clause-few g c =
    subst (λ (frames : List Frame). length frames ≤ chapter_limit) (sym c.part_of-part.ensures)
    (few c.args.store.now c.args.model.now c.args.frames.now c.loop-from.from c.chapter_end-to.result c.chapter_end-to.ensures)

pub publish_chapter-requires-clause-valid : goal.publish_chapter-requires-clause-valid
publish_chapter-requires-clause-valid g c =
    subst (All (λ frame. IsValid c.args.model.now (record_of frame))) (sym c.part_of-part.ensures)
    (of_part (λ frame. IsValid c.args.model.now (record_of frame)) c.args.frames.now c.loop-from.from c.chapter_end-to.result c.requires)

pub returns-clause-gained : goal.returns-clause-gained
returns-clause-gained g c = gains c.args.store.now c.args.model.now c.args.frames.now c.loop-from.from c.args.self.now c.loop-from.self c.loop-from.invariant

pub returns-clause-published : goal.returns-clause-published
returns-clause-published g c =
    all_published c.args.store.now c.args.model.now c.args.frames.now c.loop-from.from c.args.self.now c.loop-from.self c.loop-from.invariant c.loop-from-test.false

pub returns-then-is_full-clause-gained : goal.returns-then-is_full-clause-gained
returns-then-is_full-clause-gained g c =
    gains c.args.store.now c.args.model.now c.args.frames.now c.loop-from.from c.args.self.now c.loop-from.self c.loop-from.invariant

pub returns-then-is_full-clause-published : goal.returns-then-is_full-clause-published
returns-then-is_full-clause-published g c = inr (c.is_full.ensures.0 c.if-is_full.true)

pub returns-in_err-publish_chapter-clause-gained : goal.returns-in_err-publish_chapter-clause-gained
returns-in_err-publish_chapter-clause-gained g c =
    subst (GainsChapters c.args.store.now c.args.model.now c.args.self.now) (sym c.in_err-publish_chapter.ensures.unchanged)
    (gains c.args.store.now c.args.model.now c.args.frames.now c.loop-from.from c.args.self.now c.loop-from.self c.loop-from.invariant)
