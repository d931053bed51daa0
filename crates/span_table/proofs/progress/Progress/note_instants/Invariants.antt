use Rattle.std.proofs.Common.{List, ◌++◌, take}
use Rattle.run_data.specs.Spans.{Timed, timed}
use Rattle.span_table.specs.Progress.{KnowsFrames}
use Rattle.span_table.proofs.progress.Progress.note_instants.Given as goal

-- the frames of the instants before this one are known too
abbrev pub invariant-loop-instant : goal.invariant-loop-instant
invariant-loop-instant l =
    (frames : List Timed) → KnowsFrames l.model frames l.initial.self → KnowsFrames l.model (frames ++ timed (take l.instant-index l.instants)) l.self
