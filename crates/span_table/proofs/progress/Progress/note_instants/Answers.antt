use Rattle.std.proofs.Common.{List, [], ◌++◌, take, ap, subst, ◌∙◌}
use Rattle.run_data.specs.TaskFrames.{Frame}
use Rattle.run_data.specs.declared.runs.Instant.{Instant}
use Rattle.run_data.specs.Spans.{Timed, in_batches, timed}
use Rattle.span_table.specs.Progress.{KnowsFrames}
use Rattle.span_table.proofs.Gathering.{instants_next}
use Rattle.span_table.proofs.progress.Progress.note_instants.Goals as goal

pub loop-instant-preserved : goal.loop-instant-preserved
loop-instant-preserved c = λ frames knows.
    let before : List Timed = frames ++ timed (take c.loop-instant.instant-index c.args.instants.now) in
    subst (λ (l : List Timed). KnowsFrames c.args.model.now l c.note_batches.new.self)
    (ap (λ (batches : List (List Frame)). before ++ in_batches c.get-instant.result.now.time batches []) c.as_slice.ensures
    ∙ (ap (λ (instant : Instant). before ++ in_batches instant.time instant.batches []) c.get-instant.ensures
    ∙ instants_next frames c.loop-instant.instant-index c.args.instants.now c.instant-item.result c.loop-instant-test.true c.instant-item.is))
    (c.in_ok-note_batches.ensures before (c.loop-instant.invariant frames knows))
