use Rattle.std.proofs.Common.{List}
use Rattle.run_data.specs.Spans.{Timed}
use Rattle.span_table.specs.Progress.{KnowsTasks}
use Rattle.span_table.proofs.Marking.{MarkedTo}
use Rattle.span_table.proofs.known_tasks.mark_unfinished.Given as goal

-- those of smaller numbers have marked what they are below
abbrev pub invariant-loop-number : goal.invariant-loop-number
invariant-loop-number l = (frames : List Timed) → KnowsTasks frames l.initial.tasks.entries → MarkedTo frames l.number l.initial.tasks.entries l.tasks.entries
