-- Tasks that are live, by number: what stands at a number, and when that is a table of tasks.
use Rattle.std.specs.Prelude.{◌≡◌, ◌≢◌, ◌⊎◌, ℕ, ◌+◌, nat_eq, List, [], ◌∷◌, Option, Some, None, option_map, slice_index_or, if◌then◌else◌}
use Rattle.aerie_base.specs.Paths.{root, daemon_root, child_path}
use Rattle.run_data.specs.Tasks.{Task, Table, task_at}
use Rattle.run_data.specs.laws.NumberedTasks.{sorted_tasks}
use Rattle.run_data.specs.laws.OrderedTables.{IsOrderedTable}
use Rattle.live_tasks.specs.declared.slots.Slot.{Slot}

-- ---- what stands at a number

abbrev pub Slots : Type 0
Slots = List (Option Slot)

abbrev pub slot_at : Slots → ℕ → Option Slot
slot_at slots number = slice_index_or slots number None

-- this stands at a number now, and at the others what stood there
pub record Becomes (old new : Slots) (number : ℕ) (found : Option Slot) : Type 0 where
  pub is_there : slot_at new number ≡ found
  pub others : (other : ℕ) → other ≢ number → slot_at new other ≡ slot_at old other

-- the task of a number, if there is one, is changed
abbrev pub ChangesOne : (Slot → Slot) → Slots → Slots → ℕ → Type 0
ChangesOne change old new number = Becomes old new number (option_map change (slot_at old number))

-- ---- the children of a number

abbrev pub under : ℕ → Option ℕ → ℕ
under number None = 0
under number (Some parent) = if nat_eq parent number then 1 else 0

abbrev pub child_in : ℕ → Option Slot → ℕ
child_in number None = 0
child_in number (Some slot) = under number slot.parent

-- how many of the tasks have the task of a number as their parent
abbrev pub live_children_of : ℕ → Slots → ℕ
live_children_of number [] = 0
live_children_of number (found ∷ rest) = child_in number found + live_children_of number rest

-- ---- when the tasks are in order

abbrev pub IsRoot : List ℕ → Type 0
IsRoot path = ((id : ℕ) × (path ≡ root id)) ⊎ ((id : ℕ) × (path ≡ daemon_root id))

-- the task of that number is there, and the path is that of its child
pub record IsBelow (slots : Slots) (path : List ℕ) (own parent : ℕ) : Type 0 where
  pub above : Slot
  pub there : slot_at slots parent ≡ Some above
  pub is : path ≡ child_path above.path own

abbrev pub StandsUnder : Slots → List ℕ → ℕ → Option ℕ → Type 0
StandsUnder slots path own None = IsRoot path
StandsUnder slots path own (Some parent) = IsBelow slots path own parent

-- each path once; each task is a root or its parent is there; and each counts its children
pub record IsForest (slots : Slots) : Type 0 where
  pub distinct : (number other : ℕ) (slot second : Slot) → slot_at slots number ≡ Some slot → slot_at slots other ≡ Some second → slot.path ≡ second.path → number ≡ other
  pub stands : (number : ℕ) (slot : Slot) → slot_at slots number ≡ Some slot → StandsUnder slots slot.path slot.own slot.parent
  pub counts : (number : ℕ) (slot : Slot) → slot_at slots number ≡ Some slot → slot.live_below ≡ live_children_of number slots

-- ---- the table that they are

-- some number has the task of a path
pub record HasSlot (slots : Slots) (path : List ℕ) : Type 0 where
  pub number : ℕ
  pub slot : Slot
  pub there : slot_at slots number ≡ Some slot
  pub is : slot.path ≡ path

-- the tasks are those of a table
pub record AreTable (slots : Slots) (table : Table) : Type 0 where
  pub order : IsOrderedTable table
  pub tasks : (number : ℕ) (slot : Slot) → slot_at slots number ≡ Some slot → task_at table slot.path ≡ Some slot.task
  pub each : (path : List ℕ) (task : Task) → task_at table path ≡ Some task → HasSlot slots path

-- the tasks in order of number, and as a table
abbrev pub slot_entries : Slots → Table
slot_entries [] = []
slot_entries (None ∷ rest) = slot_entries rest
slot_entries (Some slot ∷ rest) = (slot.path, slot.task) ∷ slot_entries rest

abbrev pub table_of : Slots → Table
table_of slots = sorted_tasks (slot_entries slots)
