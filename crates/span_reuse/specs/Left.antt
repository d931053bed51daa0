-- Two runs whose frames are gone through side by side.
use Rattle.std.specs.Prelude.{◌≡◌, ℕ, ◌+◌, ◌≤◌, Bool, List, [], ◌∷◌, ◌++◌, length, Option, Some, None}
use Rattle.run_data.specs.declared.runs.Instant.{Instant}
use Rattle.run_data.specs.TaskFrames.{Frame}
use Rattle.run_data.specs.Spans.{Timed, with_time, in_batches, timed}
use Rattle.span_reuse.specs.declared.frame_cursor.FrameCursor.{FrameCursor}
use Rattle.span_reuse.specs.declared.roots.TaskRoot.{TaskRoot}
use Rattle.span_reuse.specs.Roots.{Excludes, frames_passing, is_outside_roots}
use Rattle.span_reuse.specs.Telling.{AreOfPaths, TellSameSpans}

-- ---- one run

-- the frames that are left, in the order of the run
abbrev pub frames_left : FrameCursor → List Timed
frames_left cursor = with_time cursor.time cursor.batch.now (in_batches cursor.time cursor.batches.now (timed cursor.instants.now))

-- how many batches and instants are left
abbrev pub iterations_of : List Instant → ℕ
iterations_of [] = 0
iterations_of (instant ∷ rest) = 1 + (length instant.batches + iterations_of rest)

abbrev pub iterations_left : FrameCursor → ℕ
iterations_left cursor = length cursor.batches.now + iterations_of cursor.instants.now

-- a frame that was met at a time, if one was
abbrev pub met : ℕ → Option Frame → List Timed
met time None = []
met time (Some frame) = (time, frame) ∷ []

-- these frames are passed over down to what is left of them, since they come from some roots
pub record PassesOver (roots : List TaskRoot) (before after : List Timed) : Type 0 where
  pub same : (test : List ℕ → Bool) → Excludes roots test → frames_passing test before ≡ frames_passing test after
  pub paths : AreOfPaths after → AreOfPaths before
  pub fewer : length after ≤ length before

-- of the frames that were left this one was met, and those before it are passed over since they come from some roots; where none
-- was met, none is left
pub record MeetsNext (roots : List TaskRoot) (before after : List Timed) (time : ℕ) (found : Option Frame) : Type 0 where
  pub same : (test : List ℕ → Bool) → Excludes roots test → frames_passing test before ≡ frames_passing test (met time found ++ after)
  pub paths : AreOfPaths after → AreOfPaths before
  pub fewer : length (met time found) + length after ≤ length before
  pub none : found ≡ None → after ≡ []

-- ---- both

-- a root more where a frame was met
pub record ExcludesMet (before after : List TaskRoot) (found : Option Frame) : Type 0 where
  pub before_too : (test : List ℕ → Bool) → Excludes after test → Excludes before test
  pub this_too : (test : List ℕ → Bool) → Excludes after test → (time : ℕ) → frames_passing test (met time found) ≡ []

-- two frames that were met tell the same, but where their roots are among the new ones
pub record NotesPair (before after : List TaskRoot) (frames others : List Timed) : Type 0 where
  pub before_too : (test : List ℕ → Bool) → Excludes after test → Excludes before test
  pub alike : (test : List ℕ → Bool) → Excludes after test → TellSameSpans test frames others

-- where what is left of two runs tells the same but for some roots, all of them does
pub record RestDecides (roots : List TaskRoot) (all whole left rest : List Timed) : Type 0 where
  pub alike : (test : List ℕ → Bool) → Excludes roots test → TellSameSpans test left rest → TellSameSpans test all whole
  pub paths : AreOfPaths left → AreOfPaths all
  pub others : AreOfPaths rest → AreOfPaths whole

-- two runs tell the same but for some roots
pub record DifferIn (roots : List TaskRoot) (all whole : List Timed) : Type 0 where
  pub alike : TellSameSpans (is_outside_roots roots) all whole
  pub paths : AreOfPaths all
  pub others : AreOfPaths whole
