-- The next time at which some task goes on by itself: the end of a delay, or when a waiting task wakes.
use Rattle.std.specs.Prelude.{◌≡◌, ℕ, ◌-◌, ◌≤◌, List, [], ◌∷◌, Option, Some, None, slice_get}
use Rattle.aerie_base.specs.TimeOrder.{earlier}
use Rattle.effect_cells.specs.declared.effects.CellState.{CellState}
use Rattle.effect_cells.specs.WakeTimes.{wake_time}
use Rattle.run_data.specs.Fresh.{from_now, due_time, least_due}
use Rattle.run_data.specs.Tasks.{TaskPhase, anchored, ready, delayed, waiting, calling, over, Task, Table}
use Rattle.run_data.specs.laws.NumberedTasks.{sorted_tasks, Distinct}

-- ---- delays

-- when the delay of a task ends
abbrev pub delay_in : TaskPhase → Option ℕ
delay_in (delayed until state) = Some until
delay_in (anchored to edge start state) = None
delay_in (ready state) = None
delay_in (waiting condition state) = None
delay_in (calling child into state) = None
delay_in (over result) = None

-- the least time at which a delay ends
abbrev pub least_delay : Table → Option ℕ
least_delay [] = None
least_delay (entry ∷ rest) = earlier (delay_in entry.1.phase) (least_delay rest)

-- ---- waits

-- when a waiting task wakes before the horizon
abbrev pub wake_in : ℕ → ℕ → List CellState → TaskPhase → Option ℕ
wake_in now horizon cells (waiting condition state) = from_now now (wake_time cells condition (horizon - now))
wake_in now horizon cells (delayed until state) = None
wake_in now horizon cells (anchored to edge start state) = None
wake_in now horizon cells (ready state) = None
wake_in now horizon cells (calling child into state) = None
wake_in now horizon cells (over result) = None

-- the least time at which one wakes
abbrev pub least_wake : ℕ → ℕ → List CellState → Table → Option ℕ
least_wake now horizon cells [] = None
least_wake now horizon cells (entry ∷ rest) = earlier (wake_in now horizon cells entry.1.phase) (least_wake now horizon cells rest)

-- ---- laws

-- the next time is that of the least delay or of the least wake time
abbrev pub DueSplits : Type 0
DueSplits =
    (now horizon : ℕ) (cells : List CellState) (table : Table) →
    least_due now horizon cells table ≡ earlier (least_delay table) (least_wake now horizon cells table)

-- tasks by number have the same least times
abbrev pub LeastDelayByNumber : Type 0
LeastDelayByNumber = (tasks : Table) → Distinct tasks → least_delay (sorted_tasks tasks) ≡ least_delay tasks

abbrev pub LeastWakeByNumber : Type 0
LeastWakeByNumber =
    (now horizon : ℕ) (cells : List CellState) (tasks : Table) → Distinct tasks →
    least_wake now horizon cells (sorted_tasks tasks) ≡ least_wake now horizon cells tasks

-- ---- the least of all times

-- some task is due at a time
pub record SomeDueAt (now horizon : ℕ) (cells : List CellState) (table : Table) (time : ℕ) : Type 0 where
  pub number : ℕ
  pub entry : List ℕ × Task
  pub there : slice_get table number ≡ Some entry
  pub is : due_time now horizon cells entry.1.phase ≡ Some time

-- none is due before it
abbrev pub NoneDueBefore : ℕ → ℕ → List CellState → Table → ℕ → Type 0
NoneDueBefore now horizon cells table time =
    (number : ℕ) (entry : List ℕ × Task) (other : ℕ) → slice_get table number ≡ Some entry → due_time now horizon cells entry.1.phase ≡ Some other → time ≤ other

-- a time at which some task is due, none earlier, is the least due time
abbrev pub LeastDueIs : Type 0
LeastDueIs =
    (now horizon : ℕ) (cells : List CellState) (table : Table) (time : ℕ) → SomeDueAt now horizon cells table time →
    NoneDueBefore now horizon cells table time → least_due now horizon cells table ≡ Some time

-- and where no task is due there is none
abbrev pub NoneIsDue : Type 0
NoneIsDue =
    (now horizon : ℕ) (cells : List CellState) (table : Table) →
    ((number : ℕ) (entry : List ℕ × Task) → slice_get table number ≡ Some entry → due_time now horizon cells entry.1.phase ≡ None) →
    least_due now horizon cells table ≡ None
