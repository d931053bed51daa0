use Rattle.std.proofs.Common.{ap, ◌∙◌}
use Rattle.record_book.specs.StoredSteps.{with_record}
use Rattle.record_book.proofs.RunRecords.{alone, frames_join, gathered_more}
use Rattle.record_book.proofs.books.put_frames.Goals as goal

pub loop-frame-preserved : goal.loop-frame-preserved
loop-frame-preserved c =
    gathered_more (λ frames. frames) alone frames_join c.args.index.now c.args.frames.now c.loop-frame.frame-index c.frame-item.result c.loop-frame.index c.put.new.self
    c.loop-frame-test.true c.frame-item.is c.loop-frame.invariant (c.in_ok-_place.ensures.put ∙ ap (with_record c.loop-frame.index) c.step.ensures)
