-- The ready tasks by number, in order of path.
use Rattle.std.specs.Prelude.{◌≡◌, ℕ, Bool, true, false, List, [], ◌∷◌, Option, Some, None}
use Rattle.std.specs.Ordering.{is_lt}
use Rattle.aerie_base.specs.Paths.{path_cmp}
use Rattle.effect_cells.specs.declared.effects.CellState.{CellState}
use Rattle.run_data.specs.Tasks.{Table, ready_jobs}
use Rattle.run_data.specs.laws.OrderedTables.{IsOrderedTable}
use Rattle.run_data.specs.laws.ReadyTasks.{is_ready_phase}
use Rattle.std.specs.List.{AllByRecursion}
use Rattle.live_tasks.specs.declared.readies.ReadyTask.{ReadyTask}
use Rattle.live_tasks.specs.declared.slots.Slot.{Slot}
use Rattle.live_tasks.specs.Slots.{Slots, slot_at, AreTable}
use Rattle.live_tasks.specs.Endings.{IsNumberAmong}

abbrev pub slot_entry : Option Slot → Table → Table
slot_entry None rest = rest
slot_entry (Some slot) rest = (slot.path, slot.task) ∷ rest

-- the tasks of some numbers
abbrev pub entries_at : Slots → List ℕ → Table
entries_at slots [] = []
entries_at slots (number ∷ rest) = slot_entry (slot_at slots number) (entries_at slots rest)

-- whether a task comes before another in order of path
abbrev pub is_slot_before : Option Slot → Option Slot → Bool
is_slot_before None second = false
is_slot_before (Some slot) None = false
is_slot_before (Some slot) (Some second) = is_lt (path_cmp slot.path second.path)

-- the numbers are those of the ready tasks, and their paths rise
pub record AreReadyNumbers (slots : Slots) (numbers : List ℕ) : Type 0 where
  pub sorted : IsOrderedTable (entries_at slots numbers)
  pub each : (number : ℕ) → IsNumberAmong number numbers → (slot : Slot) × (slot_at slots number ≡ Some slot) × (is_ready_phase slot.task.phase ≡ true)
  pub all : (number : ℕ) (slot : Slot) → slot_at slots number ≡ Some slot → is_ready_phase slot.task.phase ≡ true → IsNumberAmong number numbers

-- so their jobs, one after another, are those of the table
abbrev pub ReadyInOrder : Type 0
ReadyInOrder =
    (cells : List CellState) (table : Table) (slots : Slots) (numbers : List ℕ) → AreTable slots table → AreReadyNumbers slots numbers →
    ready_jobs cells table ≡ ready_jobs cells (entries_at slots numbers)

-- ---- with their paths

abbrev pub with_ready : ℕ → Option Slot → List ReadyTask → List ReadyTask
with_ready number None rest = rest
with_ready number (Some slot) rest = record { path = slot.path; number = number } ∷ rest

-- the tasks of some numbers, each with its path
abbrev pub ready_tasks : Slots → List ℕ → List ReadyTask
ready_tasks slots [] = []
ready_tasks slots (number ∷ rest) = with_ready number (slot_at slots number) (ready_tasks slots rest)

abbrev pub numbers_of_tasks : List ReadyTask → List ℕ
numbers_of_tasks [] = []
numbers_of_tasks (one ∷ rest) = one.number ∷ numbers_of_tasks rest

-- a task with its number and its path
abbrev pub HasItsPath : Slots → ReadyTask → Type 0
HasItsPath slots one = (slot : Slot) × (slot_at slots one.number ≡ Some slot) × (slot.path ≡ one.path) × (is_ready_phase slot.task.phase ≡ true)

-- the ready tasks in order of path, each with its path
pub record AreReadyTasks (slots : Slots) (ready : List ReadyTask) : Type 0 where
  pub numbers : AreReadyNumbers slots (numbers_of_tasks ready)
  pub paths : AllByRecursion (HasItsPath slots) ready
