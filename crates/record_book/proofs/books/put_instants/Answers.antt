use Rattle.std.proofs.Common.{map, ap, ◌∙◌}
use Rattle.run_data.specs.declared.runs.Instant.{Instant}
use Rattle.run_data.specs.Records.{record_of}
use Rattle.run_data.specs.RunFrames.{frames_in_batches, frames_in_instants}
use Rattle.record_book.specs.StoredSteps.{with_records}
use Rattle.record_book.proofs.RunRecords.{frames_of_instant, gathered_more, instants_join}
use Rattle.record_book.proofs.books.put_instants.Goals as goal

pub loop-instant-preserved : goal.loop-instant-preserved
loop-instant-preserved c =
    gathered_more frames_in_instants frames_of_instant instants_join c.args.index.now c.args.instants.now c.loop-instant.instant-index c.instant-item.result c.loop-instant.index
    c.put_batches.new.index c.loop-instant-test.true c.instant-item.is c.loop-instant.invariant
    (c.in_ok-put_batches.ensures
    ∙ ap (λ batches. with_records c.loop-instant.index (map record_of (frames_in_batches batches))) (c.as_slice.ensures ∙ ap (λ (i : Instant). i.batches) c.get.ensures))
