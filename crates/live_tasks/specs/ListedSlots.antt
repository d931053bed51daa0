-- The lists of ready tasks and of delays, and what is kept of waiting tasks, stand beside the live tasks.
use Rattle.std.specs.Prelude.{◌≡◌, ℕ, List, Option, length}
use Rattle.std.specs.BinaryHeap.{heap_items}
use Rattle.effect_cells.specs.declared.effects.CellState.{CellState}
use Rattle.live_tasks.specs.declared.listed_slots.ListedSlots.{ListedSlots}
use Rattle.live_tasks.specs.declared.slots.Slot.{Slot}
use Rattle.live_tasks.specs.Conditions.{condition_at}
use Rattle.live_tasks.specs.Listing.{AreTasksListed, AreOnlyListed}
use Rattle.live_tasks.specs.Slots.{slot_at}
use Rattle.live_tasks.specs.Waits.{IsKept, IsFound}

-- the task of a number
abbrev pub slot_in : ListedSlots → ℕ → Option Slot
slot_in tables number = slot_at tables.slots.slots number

-- all that are ready are listed, and all delays
abbrev pub ListsAll : ListedSlots → Type 0
ListsAll tables = AreTasksListed tables.slots.slots tables.readies.items (heap_items tables.delays)

-- and only those that are ready
abbrev pub ListsExactly : ListedSlots → Type 0
ListsExactly tables = AreOnlyListed tables.slots.slots tables.readies.items (heap_items tables.delays)

-- the wake times that are kept are right, but for those that are to be found anew
abbrev pub AreWaitsKept : ℕ → ℕ → List CellState → ListedSlots → Type 0
AreWaitsKept now horizon cells tables = IsKept now horizon cells (condition_at tables.slots.slots) tables.waits

-- and none is to be found anew
abbrev pub AreWaitsFound : ℕ → ℕ → List CellState → ListedSlots → Type 0
AreWaitsFound now horizon cells tables = IsFound now horizon cells (condition_at tables.slots.slots) tables.waits

-- they are right whatever the time, the horizon and the states of so many cells
abbrev pub AreWaitsKeptFor : ℕ → ListedSlots → Type 0
AreWaitsKeptFor count tables = (now horizon : ℕ) (cells : List CellState) → length cells ≡ count → AreWaitsKept now horizon cells tables

-- wherever they are right before, they are after
abbrev pub KeepsWaits : ListedSlots → ListedSlots → Type 0
KeepsWaits before after = (now horizon : ℕ) (cells : List CellState) → AreWaitsKept now horizon cells before → AreWaitsKept now horizon cells after

-- what a change keeps
abbrev pub KeepsAll : ListedSlots → ListedSlots → Type 0
KeepsAll before after = ListsAll before → ListsAll after

abbrev pub KeepsExactly : ListedSlots → ListedSlots → Type 0
KeepsExactly before after = ListsExactly before → ListsExactly after
