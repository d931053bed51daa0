-- Spans as they begin, and as they end.
use Rattle.std.specs.Prelude.{ℕ, Bool, true, false, List, [], ◌∷◌, ◌++◌, Option, Some, None, if◌then◌else◌}
use Rattle.std.specs.List.{list_any}
use Rattle.aerie_base.specs.declared.models.model.Parts.{Parts}
use Rattle.aerie_base.specs.Paths.{is_prefix}
use Rattle.run_data.specs.declared.tasks.BodyId.{BodyId}
use Rattle.run_data.specs.declared.tasks.BodyId.TheVariants as body
use Rattle.run_data.specs.TaskFrames.{Frame}
use Rattle.span_table.specs.declared.span.Span.{Span}
use Rattle.run_data.specs.Spans.{SpanOf, Timed, is_of_path, task_ended, result_in, span_if}

-- the span of an activity that begins with a frame, as long as it has not ended
abbrev pub unfinished : Parts → ℕ → Frame → ℕ → SpanOf
unfinished model time frame kind = span_if false [] model time frame kind

abbrev pub begun_by : Parts → ℕ → Frame → BodyId → List SpanOf
begun_by model time frame (body.Activity kind) = unfinished model time frame kind ∷ []
begun_by model time frame (body.Daemon number) = []

-- the spans that begin with these frames, of which those before are not the first of their paths
abbrev pub begun_from : Parts → List Timed → List Timed → List SpanOf
begun_from model before [] = []
begun_from model before (entry ∷ rest) =
    (if list_any (is_of_path entry.1.path) before then [] else begun_by model entry.0 entry.1 entry.1.before.kind)
    ++ begun_from model (entry ∷ before) rest

-- the time of the last of these frames that is at or under a path, or what was found before them
abbrev pub last_after : Option ℕ → List Timed → List ℕ → Option ℕ
last_after found [] path = found
last_after found (entry ∷ rest) path = last_after (if is_prefix path entry.1.path then Some entry.0 else found) rest path

abbrev pub ended_if : Bool → List Timed → SpanOf → SpanOf
ended_if false frames span = span
ended_if true frames span = record span { end = last_after None frames span.path; result = result_in frames span.path }

-- a span with its end and its result by all frames of the run, once its task has ended
abbrev pub finished_span : List Timed → SpanOf → SpanOf
finished_span frames span = ended_if (task_ended frames span.path) frames span

abbrev pub with_end_if : Bool → List Timed → Span → Span
with_end_if false frames span = span
with_end_if true frames span = record span { end = last_after None frames span.path; result = result_in frames span.path }

-- the same of a span of the program
abbrev pub with_end : List Timed → Span → Span
with_end frames span = with_end_if (task_ended frames span.path) frames span

-- a span more where the body of a frame's task is new
abbrev pub begun_if : Bool → Parts → ℕ → Frame → List SpanOf
begun_if is_new model time frame = if is_new then begun_by model time frame frame.before.kind else []
