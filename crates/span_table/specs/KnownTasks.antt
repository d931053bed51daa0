-- Tasks by number: what is known of each, and by which task it was made.
use Rattle.std.specs.Prelude.{◌≡◌, Bool, true, ℕ, ◌<◌, ◌≤◌, List, length, map, cond, Option, Some, None, IfSome, slice_get}
use Rattle.std.specs.Map.{lookup}
use Rattle.aerie_base.specs.Paths.{is_prefix, child_path}
use Rattle.run_data.specs.Spans.{same_path}
use Rattle.span_table.specs.declared.body_states.BodyState.{BodyState}
use Rattle.span_table.specs.BodyStates.{is_open_state}
use Rattle.span_table.specs.declared.known_tasks.Ending.{Ending}
use Rattle.span_table.specs.declared.known_tasks.Ending.TheVariants.{After}
use Rattle.span_table.specs.declared.known_tasks.KnownTask.{KnownTask}

-- the tasks in the order of their numbers
abbrev pub TaskList : Type 0
TaskList = List (List ℕ × KnownTask)

-- ---- by path

abbrev pub known_task : TaskList → List ℕ → Option KnownTask
known_task tasks path = lookup (same_path path) tasks

abbrev pub body_state_in : Option KnownTask → Option BodyState
body_state_in None = None
body_state_in (Some task) = task.body

-- of what is not known there was no step
abbrev pub ending_of : Option KnownTask → Ending
ending_of None = After None
ending_of (Some task) = task.ending

-- ---- by whom each was made

-- the path of each number, and the number of the task that made it
abbrev pub Links : Type 0
Links = List (List ℕ × Option ℕ)

abbrev pub links_of : TaskList → Links
links_of tasks = map (λ entry. (entry.0, entry.1.above)) tasks

-- a number is of a path
abbrev pub IsPathAt : Links → ℕ → List ℕ → Type 0
IsPathAt links number path = (above : Option ℕ) × (slice_get links number ≡ Some (path, above))

-- the second path is that of a child of the first
abbrev pub IsChild : List ℕ → List ℕ → Type 0
IsChild maker path = (child : ℕ) × (path ≡ child_path maker child)

-- the task of a number made that of a path
abbrev pub IsMaker : Links → ℕ → List ℕ → Type 0
IsMaker links number path = (maker : List ℕ) × IsPathAt links number maker × IsChild maker path

-- the task of a path was made by one with a smaller number, or by none, since it is a directive's or a daemon's own
abbrev pub IsLinked : Links → ℕ → List ℕ → Option ℕ → Type 0
IsLinked links number path None = length path ≡ 2
IsLinked links number path (Some above) = (above < number) × IsMaker links above path

abbrev pub AreLinked : Links → Type 0
AreLinked links = (number : ℕ) (path : List ℕ) (above : Option ℕ) → slice_get links number ≡ Some (path, above) → IsLinked links number path above

-- ---- changes

-- what is known of each path is as it was
pub record KnowSame (before after : TaskList) : Type 0 where
  pub bodies : (path : List ℕ) → body_state_in (known_task after path) ≡ body_state_in (known_task before path)
  pub endings : (path : List ℕ) → ending_of (known_task after path) ≡ ending_of (known_task before path)

-- a path has this number; the others have their own, and of none more is known
pub record Numbers (path : List ℕ) (number : ℕ) (before after : TaskList) : Type 0 where
  pub linked : AreLinked (links_of after)
  pub there : IsPathAt (links_of after) number path
  pub kept : (other : ℕ) (link : List ℕ × Option ℕ) → slice_get (links_of before) other ≡ Some link → slice_get (links_of after) other ≡ Some link
  pub same : KnowSame before after

-- the task of a path may be the next one, made by that of a number
abbrev pub MayBeLinked : TaskList → List ℕ → Option ℕ → Type 0
MayBeLinked tasks path above = AreLinked (links_of tasks) × IsLinked (links_of tasks) (length tasks) path above

-- the body of a number comes so far
abbrev pub PutsBody : ℕ → BodyState → TaskList → TaskList → Type 0
PutsBody number body before after = (path : List ℕ) → IsPathAt (links_of before) number path →
    (links_of after ≡ links_of before)
    × ((other : List ℕ) → body_state_in (known_task after other) ≡ cond (same_path path other) (Some body) (body_state_in (known_task before other)))
    × ((other : List ℕ) → ending_of (known_task after other) ≡ ending_of (known_task before other))

-- the task of a number has this end, and was made by that of another
abbrev pub PutsEnding : ℕ → Ending → TaskList → TaskList → Option ℕ → Type 0
PutsEnding number ending before after above = (path : List ℕ) (maker : Option ℕ) → slice_get (links_of before) number ≡ Some (path, maker) →
    (above ≡ maker) × (links_of after ≡ links_of before)
    × ((other : List ℕ) → body_state_in (known_task after other) ≡ body_state_in (known_task before other))
    × ((other : List ℕ) → ending_of (known_task after other) ≡ cond (same_path path other) ending (ending_of (known_task before other)))

-- the task of a number, and all that it is below, have this end
abbrev pub EndsAbove : ℕ → Ending → TaskList → TaskList → Type 0
EndsAbove number ending before after = (path : List ℕ) → IsPathAt (links_of before) number path →
    (links_of after ≡ links_of before)
    × ((other : List ℕ) → body_state_in (known_task after other) ≡ body_state_in (known_task before other))
    × ((other : List ℕ) → 2 ≤ length other → ending_of (known_task after other) ≡ cond (is_prefix other path) ending (ending_of (known_task before other)))

-- the task of a number, and all that it is below, have this end already
abbrev pub HaveEnding : TaskList → Ending → ℕ → Type 0
HaveEnding tasks ending number = (path other : List ℕ) → IsPathAt (links_of tasks) number path → 2 ≤ length other → is_prefix other path ≡ true →
    ending_of (known_task tasks other) ≡ ending

-- the same where the tasks are linked, and where the one at which it stops has this end already
abbrev pub EndsAll : ℕ → Ending → Option ℕ → TaskList → TaskList → Type 0
EndsAll number ending stop before after = AreLinked (links_of before) → IfSome stop (HaveEnding before ending) → EndsAbove number ending before after

-- a path that may be linked so has this number
abbrev pub GetsNumber : List ℕ → Option ℕ → ℕ → TaskList → TaskList → Type 0
GetsNumber path above number before after = MayBeLinked before path above → Numbers path number before after

-- where the tasks are linked, a path has this number
abbrev pub IsNumbered : List ℕ → ℕ → TaskList → TaskList → Type 0
IsNumbered path number before after = AreLinked (links_of before) → Numbers path number before after

-- ---- by number

-- by which task that of a number was made
abbrev pub IsMakerOf : TaskList → ℕ → Option ℕ → Type 0
IsMakerOf tasks number maker = (path : List ℕ) (above : Option ℕ) → slice_get (links_of tasks) number ≡ Some (path, above) → maker ≡ above

-- the body of a number has come so far
abbrev pub IsBodyAt : TaskList → ℕ → Option BodyState → Type 0
IsBodyAt tasks number body = (path : List ℕ) → IsPathAt (links_of tasks) number path → body ≡ body_state_in (known_task tasks path)

-- whether the body of a number has begun and not ended
abbrev pub IsOpenAt : TaskList → ℕ → Bool → Type 0
IsOpenAt tasks number answer = (path : List ℕ) → IsPathAt (links_of tasks) number path → answer ≡ is_open_state (body_state_in (known_task tasks path))
