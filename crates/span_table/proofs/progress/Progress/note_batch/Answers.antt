use Rattle.std.proofs.Common.{List, subst}
use Rattle.run_data.specs.Spans.{Timed}
use Rattle.span_table.specs.Progress.{KnowsFrames}
use Rattle.span_table.proofs.Gathering.{frames_next}
use Rattle.span_table.proofs.progress.Progress.note_batch.Goals as goal

pub loop-frame-preserved : goal.loop-frame-preserved
loop-frame-preserved c = λ frames knows.
    subst (λ (l : List Timed). KnowsFrames c.args.model.now l c.note.new.self)
    (frames_next frames c.args.time c.loop-frame.frame-index c.args.batch.now c.frame-item.result c.loop-frame-test.true c.frame-item.is)
    (c.in_ok-note.ensures _ (c.loop-frame.invariant frames knows))
