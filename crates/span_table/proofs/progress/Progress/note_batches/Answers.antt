use Rattle.std.proofs.Common.{List, [], ◌++◌, take, ap, subst, ◌∙◌}
use Rattle.run_data.specs.TaskFrames.{Frame}
use Rattle.run_data.specs.Spans.{Timed, with_time, in_batches}
use Rattle.span_table.specs.Progress.{KnowsFrames}
use Rattle.span_table.proofs.Gathering.{batches_next}
use Rattle.span_table.proofs.progress.Progress.note_batches.Goals as goal

pub loop-batch-preserved : goal.loop-batch-preserved
loop-batch-preserved c = λ frames knows.
    let before : List Timed = frames ++ in_batches c.args.time (take c.loop-batch.batch-index c.args.batches.now) [] in
    subst (λ (l : List Timed). KnowsFrames c.args.model.now l c.note_batch.new.self)
    (ap (λ (batch : List Frame). before ++ with_time c.args.time batch []) c.as_slice.ensures
    ∙ batches_next frames c.args.time c.loop-batch.batch-index c.args.batches.now c.batch-item.result c.loop-batch-test.true c.batch-item.is)
    (c.in_ok-note_batch.ensures before (c.loop-batch.invariant frames knows))
