use Rattle.std.proofs.Common.{List, [], ◌++◌, take}
use Rattle.run_data.specs.Spans.{Timed, with_time}
use Rattle.span_table.specs.Progress.{KnowsFrames}
use Rattle.span_table.proofs.progress.Progress.note_batch.Given as goal

-- the frames before this one are known too
abbrev pub invariant-loop-frame : goal.invariant-loop-frame
invariant-loop-frame l =
    (frames : List Timed) → KnowsFrames l.model frames l.initial.self → KnowsFrames l.model (frames ++ with_time l.time (take l.frame-index l.batch) []) l.self
