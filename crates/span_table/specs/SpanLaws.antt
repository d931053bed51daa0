-- What holds of the spans of a run: one for each activity that began, when each ended, and at which times; and which they are.
use Rattle.std.specs.Prelude.{◌≡◌, ℕ, ◌+◌, ◌≤◌, Bool, true, false, List, [], ◌∷◌, Option, Some, None, IfSome, if◌then◌else◌, map}
use Rattle.std.specs.List.{All, Contains}
use Rattle.aerie_base.specs.Paths.{is_prefix}
use Rattle.aerie_base.specs.declared.models.model.Parts.{Parts}
use Rattle.run_data.specs.declared.runs.Run.{Run}
use Rattle.run_data.specs.declared.tasks.BodyId.{BodyId}
use Rattle.run_data.specs.declared.tasks.BodyId.TheVariants as body
use Rattle.run_data.specs.Fresh.{IsFresh}
use Rattle.run_data.specs.Spans.{Timed, same_path, is_of_path, body_ended, spans_of, timed}
use Rattle.span_table.specs.AsDefined.{defined_span}
use Rattle.span_table.specs.declared.span.Span.{Span}

-- ---- one for each

-- the frame with which a task begins: the first of its path
abbrev pub first_frame : List Timed → List ℕ → Option Timed
first_frame [] path = None
first_frame (entry ∷ rest) path = if is_of_path path entry then Some entry else first_frame rest path

abbrev pub is_of_activity : BodyId → Bool
is_of_activity (body.Activity kind) = true
is_of_activity (body.Daemon number) = false

-- whether a task began with these frames, and as an activity
abbrev pub begins_activity : Option Timed → Bool
begins_activity None = false
begins_activity (Some entry) = is_of_activity entry.1.before.kind

-- how many spans are of a path
abbrev pub spans_with : List ℕ → List Span → ℕ
spans_with path [] = 0
spans_with path (span ∷ rest) = if same_path path span.path then 1 + spans_with path rest else spans_with path rest

-- each activity that began with these frames has one span, and no other task has any
abbrev pub HasOneEach : List Timed → List Span → Type 0
HasOneEach frames spans = (path : List ℕ) → spans_with path spans ≡ (if begins_activity (first_frame frames path) then 1 else 0)

-- ---- ends

-- some body at a path or under it began and has not ended
pub record IsUnfinished (frames : List Timed) (path : List ℕ) : Type 0 where
  pub entry : Timed
  pub among : Contains frames entry
  pub under : is_prefix path entry.1.path ≡ true
  pub still_open : body_ended frames entry.1.path ≡ false

-- each body at a path or under it that began has ended
abbrev pub IsFinished : List Timed → List ℕ → Type 0
IsFinished frames path = (entry : Timed) → Contains frames entry → is_prefix path entry.1.path ≡ true → body_ended frames entry.1.path ≡ true

-- a span without an end is of a task that is unfinished, and one with an end of a task that is finished
abbrev pub EndTells : List Timed → List ℕ → Option ℕ → Type 0
EndTells frames path None = IsUnfinished frames path
EndTells frames path (Some end) = IsFinished frames path

abbrev pub HasItsEnd : List Timed → Span → Type 0
HasItsEnd frames span = EndTells frames span.path span.end

-- ---- times

-- it begins by the time that the run reached, and ends no earlier than it begins and no later than that time
abbrev pub LiesWithin : ℕ → ℕ → Option ℕ → Type 0
LiesWithin reach start end = (start ≤ reach) × IfSome end (λ end. (start ≤ end) × (end ≤ reach))

abbrev pub IsInTime : ℕ → Span → Type 0
IsInTime reach span = LiesWithin reach span.start span.end

-- where the run is fresh, each of them is
abbrev pub AreInTime : Parts → Run → List Span → Type 0
AreInTime model run spans = IsFresh model run.plan run.bound run → All (IsInTime run.reach) spans

-- ---- all of a run

-- these are the spans of the run, with what others ask of them
pub record AreSpansOf (model : Parts) (run : Run) (spans : List Span) : Type 0 where
  pub exact : map defined_span spans ≡ spans_of model run
  pub one_each : HasOneEach (timed run.instants) spans
  pub in_time : AreInTime model run spans
