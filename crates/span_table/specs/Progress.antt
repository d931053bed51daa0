-- What some frames tell, one after another.
use Rattle.std.specs.Prelude.{◌≡◌, ◌≤◌, ℕ, List, [], ◌∷◌, ◌++◌, map, length, Option, Some, None, IfSome, cond}
use Rattle.aerie_base.specs.declared.models.model.Parts.{Parts}
use Rattle.run_data.specs.TaskFrames.{Frame}
use Rattle.run_data.specs.Spans.{SpanOf, Timed, task_ended}
use Rattle.span_table.specs.declared.known_tasks.Ending.TheVariants.{After, Unfinished}
use Rattle.span_table.specs.declared.begins.BegunSpans.{BegunSpans}
use Rattle.span_table.specs.declared.progress.LastFrame.{LastFrame}
use Rattle.span_table.specs.declared.progress.Progress.{Progress}
use Rattle.span_table.specs.declared.span.Span.{Span}
use Rattle.span_table.specs.AsDefined.{defined_span}
use Rattle.span_table.specs.Begun.{begun_from, finished_span, last_after, with_end}
use Rattle.span_table.specs.BodyStates.{body_after}
use Rattle.span_table.specs.KnownTasks.{TaskList, Links, AreLinked, HaveEnding, IsPathAt, body_state_in, ending_of, known_task, links_of}

-- ---- tasks

-- what some frames tell of the tasks
pub record KnowsTasks (frames : List Timed) (tasks : TaskList) : Type 0 where
  pub linked : AreLinked (links_of tasks)
  pub bodies : (path : List ℕ) → body_state_in (known_task tasks path) ≡ body_after frames path
  pub endings : (path : List ℕ) → 2 ≤ length path → ending_of (known_task tasks path) ≡ After (last_after None frames path)

-- what all frames tell of them: each has its end, or is unfinished
pub record KnowsEnds (frames : List Timed) (tasks : TaskList) : Type 0 where
  pub bodies : (path : List ℕ) → body_state_in (known_task tasks path) ≡ body_after frames path
  pub endings : (path : List ℕ) → 2 ≤ length path → ending_of (known_task tasks path) ≡ cond (task_ended frames path) (After (last_after None frames path)) Unfinished

-- ---- spans

-- each of these numbers is that of the task of a span
abbrev pub AreNumbersOf : Links → List Span → List ℕ → Type 0
AreNumbersOf links [] [] = Unit {0}
AreNumbersOf links [] (number ∷ numbers) = ⊥
AreNumbersOf links (span ∷ spans) [] = ⊥
AreNumbersOf links (span ∷ spans) (number ∷ numbers) = IsPathAt links number span.path × AreNumbersOf links spans numbers

-- ---- the last frame

-- it is the last of these: of the task of this number, at this time
pub record IsLast (frames : List Timed) (links : Links) (last : LastFrame) : Type 0 where
  pub before : List Timed
  pub frame : Frame
  pub are : frames ≡ before ++ (last.time, frame) ∷ []
  pub at : IsPathAt links last.number frame.path

-- what is known of the last of these frames
abbrev pub KnowsLast : List Timed → Links → Option LastFrame → Type 0
KnowsLast frames links last = IfSome last (IsLast frames links)

-- the task of a number, if any, and all that it is below, end with the step at a time
abbrev pub EndWith : ℕ → TaskList → Option LastFrame → Option ℕ → Type 0
EndWith time tasks last stop = (frames : List Timed) → KnowsTasks frames tasks → KnowsLast frames (links_of tasks) last →
    IfSome stop (HaveEnding tasks (After (Some time)))

-- ---- all that the frames tell

-- which spans have begun, and what is known of the tasks and of the last frame
pub record KnowsFrames (model : Parts) (frames : List Timed) (progress : Progress) : Type 0 where
  pub begun : map defined_span progress.begun.spans.items ≡ begun_from model [] frames
  pub numbers : AreNumbersOf (links_of progress.tasks.entries) progress.begun.spans.items progress.begun.numbers.items
  pub tasks : KnowsTasks frames progress.tasks.entries
  pub last : KnowsLast frames (links_of progress.tasks.entries) progress.last

-- ---- changes

-- where some frames were taken in, these are as well
abbrev pub Learns : Parts → List Timed → Progress → Progress → Type 0
Learns model more before after = (frames : List Timed) → KnowsFrames model frames before → KnowsFrames model (frames ++ more) after

-- the ends of all tasks are found
abbrev pub FindsEnds : TaskList → TaskList → Type 0
FindsEnds before after = (frames : List Timed) → KnowsTasks frames before → KnowsEnds frames after × (links_of after ≡ links_of before)

-- the span of the task of a number gets its end and its result
abbrev pub GetsEnd : TaskList → ℕ → Span → Span → Type 0
GetsEnd tasks number span after = (frames : List Timed) → KnowsEnds frames tasks → IsPathAt (links_of tasks) number span.path → after ≡ with_end frames span

-- and so do the spans of the tasks of these numbers
abbrev pub GetEnds : TaskList → List ℕ → List Span → List Span → Type 0
GetEnds tasks numbers spans after = (frames : List Timed) → KnowsEnds frames tasks → AreNumbersOf (links_of tasks) spans numbers → after ≡ map (with_end frames) spans

-- the spans that began, each with its end and its result
abbrev pub AreFinishedSpans : Progress → List Span → Type 0
AreFinishedSpans progress spans = (model : Parts) (frames : List Timed) → KnowsFrames model frames progress →
    map defined_span spans ≡ map (finished_span frames) (begun_from model [] frames)

-- the spans and their numbers are those of tasks as before
abbrev pub KeepNumbers : ℕ → List ℕ → BegunSpans → BegunSpans → Type 0
KeepNumbers number path before after = (links : Links) → IsPathAt links number path → AreNumbersOf links before.spans.items before.numbers.items →
    AreNumbersOf links after.spans.items after.numbers.items

-- behind the spans that have begun stand these
abbrev pub GainsSpans : BegunSpans → BegunSpans → List SpanOf → Type 0
GainsSpans before after more = map defined_span after.spans.items ≡ map defined_span before.spans.items ++ more
