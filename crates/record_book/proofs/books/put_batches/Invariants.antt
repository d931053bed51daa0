use Rattle.run_data.specs.RunFrames.{frames_in_batches}
use Rattle.record_book.proofs.RunRecords.{WithFirst, batches_join}
use Rattle.record_book.proofs.books.put_batches.Given as goal

abbrev pub invariant-loop-batch : goal.invariant-loop-batch
invariant-loop-batch l = WithFirst frames_in_batches (λ frames. frames) batches_join l.initial.index l.batches l.batch-index l.index
