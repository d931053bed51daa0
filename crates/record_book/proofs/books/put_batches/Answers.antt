use Rattle.std.proofs.Common.{map, ap, ◌∙◌}
use Rattle.run_data.specs.Records.{record_of}
use Rattle.run_data.specs.RunFrames.{frames_in_batches}
use Rattle.record_book.specs.StoredSteps.{with_records}
use Rattle.record_book.proofs.RunRecords.{batches_join, gathered_more}
use Rattle.record_book.proofs.books.put_batches.Goals as goal

pub loop-batch-preserved : goal.loop-batch-preserved
loop-batch-preserved c =
    gathered_more frames_in_batches (λ frames. frames) batches_join c.args.index.now c.args.batches.now c.loop-batch.batch-index c.batch-item.result c.loop-batch.index
    c.put_frames.new.index c.loop-batch-test.true c.batch-item.is c.loop-batch.invariant
    (c.in_ok-put_frames.ensures ∙ ap (λ frames. with_records c.loop-batch.index (map record_of frames)) c.as_slice.ensures)
