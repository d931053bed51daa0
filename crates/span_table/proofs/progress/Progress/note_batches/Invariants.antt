use Rattle.std.proofs.Common.{List, [], ◌++◌, take}
use Rattle.run_data.specs.Spans.{Timed, in_batches}
use Rattle.span_table.specs.Progress.{KnowsFrames}
use Rattle.span_table.proofs.progress.Progress.note_batches.Given as goal

-- the frames of the batches before this one are known too
abbrev pub invariant-loop-batch : goal.invariant-loop-batch
invariant-loop-batch l =
    (frames : List Timed) → KnowsFrames l.model frames l.initial.self → KnowsFrames l.model (frames ++ in_batches l.time (take l.batch-index l.batches) []) l.self
