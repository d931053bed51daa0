-- The spans of a run: when each activity began and ended, and what it returned.
use Rattle.std.specs.Prelude.{ℕ, Bool, true, false, not, ◌&&◌, ◌||◌, List, [], ◌∷◌, ◌++◌, length, take, Option, Some, None, nat_eq, nat_lt, slice_get, if◌then◌else◌}
use Rattle.std.specs.List.{list_all, list_any}
use Rattle.std.specs.Cmp.Lexicographic.{pointwise}
use Rattle.std.specs.declared.cmp.Ordering.{Ordering}
use Rattle.std.specs.declared.cmp.Ordering.TheVariants.{Less, Equal, Greater}
use Rattle.aerie_base.specs.declared.values.Value.{Value}
use Rattle.aerie_base.specs.declared.models.Activity.{Activity}
use Rattle.aerie_base.specs.declared.models.model.Parts.{Parts}
use Rattle.aerie_base.specs.Paths.{path_cmp, is_prefix}
use Rattle.run_data.specs.declared.tasks.BodyId.{BodyId}
use Rattle.run_data.specs.declared.tasks.BodyId.TheVariants as body
use Rattle.run_data.specs.declared.frames.Status.{Status}
use Rattle.run_data.specs.declared.frames.Status.TheVariants as status
use Rattle.run_data.specs.TaskFrames.{Frame}
use Rattle.run_data.specs.declared.runs.Instant.{Instant}
use Rattle.run_data.specs.declared.runs.Run.{Run}

pub record SpanOf : Type 0 where
  pub path : List ℕ
  pub kind : ℕ
  pub arguments : List Value
  pub start : ℕ
  pub end : Option ℕ
  pub result : Option Value

-- ---- the frames of a run with their times

abbrev pub Timed : Type 0
Timed = ℕ × Frame

abbrev pub with_time : ℕ → List Frame → List Timed → List Timed
with_time time [] rest = rest
with_time time (frame ∷ frames) rest = (time, frame) ∷ with_time time frames rest

abbrev pub in_batches : ℕ → List (List Frame) → List Timed → List Timed
in_batches time [] rest = rest
in_batches time (batch ∷ batches) rest = with_time time batch (in_batches time batches rest)

-- the frames of settled instants, in the order of the run
abbrev pub timed : List Instant → List Timed
timed [] = []
timed (instant ∷ rest) = in_batches instant.time instant.batches (timed rest)

-- ---- one task

abbrev pub same_path : List ℕ → List ℕ → Bool
same_path = pointwise nat_eq

abbrev pub is_done : Status → Bool
is_done (status.Done result) = true
is_done (status.Delayed by next) = false
is_done (status.Waiting condition next) = false
is_done (status.Calling into next) = false
is_done (status.Faulted fault) = false

abbrev pub returned : Status → Option Value
returned (status.Done result) = result
returned (status.Delayed by next) = None
returned (status.Waiting condition next) = None
returned (status.Calling into next) = None
returned (status.Faulted fault) = None

abbrev pub is_of_path : List ℕ → Timed → Bool
is_of_path path entry = same_path path entry.1.path

-- a body has ended where one of its frames says so
abbrev pub body_ended : List Timed → List ℕ → Bool
body_ended all path = list_any (λ entry. is_of_path path entry && is_done entry.1.status) all

-- a task has ended where its body and all bodies under it have
abbrev pub task_ended : List Timed → List ℕ → Bool
task_ended all path = list_all (λ entry. not (is_prefix path entry.1.path) || body_ended all entry.1.path) all

-- the time of the last frame of a task or of one under it
abbrev pub last_time : List Timed → List ℕ → ℕ → ℕ
last_time [] path time = time
last_time (entry ∷ rest) path time = last_time rest path (if is_prefix path entry.1.path then entry.0 else time)

abbrev pub or_returned : Bool → Option Value → Option Value → Option Value
or_returned true result rest = result
or_returned false result rest = rest

-- what a body returned
abbrev pub result_in : List Timed → List ℕ → Option Value
result_in [] path = None
result_in (entry ∷ rest) path =
    or_returned (is_of_path path entry && is_done entry.1.status) (returned entry.1.status) (result_in rest path)

-- ---- spans

abbrev pub parameters_of : Option Activity → ℕ
parameters_of None = 0
parameters_of (Some activity) = length activity.parameters

-- the span of an activity that began with this frame; one without an end has no result
abbrev pub span_if : Bool → List Timed → Parts → ℕ → Frame → ℕ → SpanOf
span_if true all model time frame kind = record {
  path = frame.path;
  kind = kind;
  arguments = take (parameters_of (slice_get model.activities kind)) frame.before.locals;
  start = time;
  end = Some (last_time all frame.path time);
  result = result_in all frame.path;
}
span_if false all model time frame kind = record {
  path = frame.path;
  kind = kind;
  arguments = take (parameters_of (slice_get model.activities kind)) frame.before.locals;
  start = time;
  end = None;
  result = None;
}

-- daemons have no span
abbrev pub span_of_body : List Timed → Parts → ℕ → Frame → BodyId → List SpanOf
span_of_body all model time frame (body.Activity kind) = span_if (task_ended all frame.path) all model time frame kind ∷ []
span_of_body all model time frame (body.Daemon number) = []

-- the spans of the frames with which a body begins: those of a path that no frame before them has
abbrev pub spans_from : List Timed → Parts → List Timed → List Timed → List SpanOf
spans_from all model before [] = []
spans_from all model before (entry ∷ rest) =
    (if list_any (is_of_path entry.1.path) before then [] else span_of_body all model entry.0 entry.1 entry.1.before.kind)
    ++ spans_from all model (entry ∷ before) rest

-- ---- order

abbrev pub by_path_if_equal : Bool → Bool → Ordering → Bool
by_path_if_equal true same order = true
by_path_if_equal false false order = false
by_path_if_equal false true Less = true
by_path_if_equal false true Equal = true
by_path_if_equal false true Greater = false

-- by start, then by path
abbrev pub comes_first : SpanOf → SpanOf → Bool
comes_first span other = by_path_if_equal (nat_lt span.start other.start) (nat_eq span.start other.start) (path_cmp span.path other.path)

abbrev pub put_span : SpanOf → List SpanOf → List SpanOf
put_span span [] = span ∷ []
put_span span (first ∷ rest) = if comes_first span first then span ∷ first ∷ rest else first ∷ put_span span rest

abbrev pub sorted_spans : List SpanOf → List SpanOf
sorted_spans [] = []
sorted_spans (span ∷ rest) = put_span span (sorted_spans rest)

-- the spans of a run: one for each activity that began in a settled instant, by start and then by path
abbrev pub spans_of : Parts → Run → List SpanOf
spans_of model run = let all = timed run.instants in sorted_spans (spans_from all model [] all)
