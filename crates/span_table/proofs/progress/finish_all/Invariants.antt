use Rattle.std.proofs.Common.{◌≡◌, ◌++◌, List, map, take, drop}
use Rattle.run_data.specs.Spans.{Timed}
use Rattle.span_table.specs.Begun.{with_end}
use Rattle.span_table.specs.KnownTasks.{links_of}
use Rattle.span_table.specs.Progress.{AreNumbersOf, KnowsEnds}
use Rattle.span_table.proofs.progress.finish_all.Given as goal

-- the spans so far have their ends, the others are as they were
abbrev pub invariant-loop-at : goal.invariant-loop-at
invariant-loop-at l =
    (frames : List Timed) → KnowsEnds frames l.tasks.entries → AreNumbersOf (links_of l.tasks.entries) l.initial.spans l.numbers →
    l.spans ≡ map (with_end frames) (take l.at l.initial.spans) ++ drop l.at l.initial.spans
