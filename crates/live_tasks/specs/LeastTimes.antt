-- The least of the times at which tasks go on by themselves.
use Rattle.std.specs.Prelude.{◌≡◌, ℕ, ◌≤◌, Bool, true, false, [], ◌∷◌, Option, Some, None}
use Rattle.aerie_base.specs.TimeOrder.{earlier}
use Rattle.run_data.specs.Tasks.{TaskPhase, Table}
use Rattle.live_tasks.specs.declared.slots.Slot.{Slot}

-- a time is not after another, where there is one
abbrev pub IsUpToTime : ℕ → Option ℕ → Type 0
IsUpToTime time None = Unit {0}
IsUpToTime time (Some other) = time ≤ other

-- the time of what each task is doing, and the least of these
abbrev pub least_of : (TaskPhase → Option ℕ) → Table → Option ℕ
least_of time_of [] = None
least_of time_of (entry ∷ rest) = earlier (time_of entry.1.phase) (least_of time_of rest)

-- the time of the task of a number
abbrev pub time_of_slot : (TaskPhase → Option ℕ) → Option Slot → Option ℕ
time_of_slot time_of None = None
time_of_slot time_of (Some slot) = time_of slot.task.phase

-- ---- of times that stand somewhere, each with a number

-- none is before a time
abbrev pub IsNoneBefore : ℕ → (ℕ → ℕ → Bool) → Type 0
IsNoneBefore now has = (time number : ℕ) → has time number ≡ true → now ≤ time

-- the least, if there is one
abbrev pub IsLeastTime : (ℕ → ℕ → Bool) → Option ℕ → Type 0
IsLeastTime has None = (time number : ℕ) → has time number ≡ false
IsLeastTime has (Some time) = ((number : ℕ) × (has time number ≡ true)) × IsNoneBefore time has
