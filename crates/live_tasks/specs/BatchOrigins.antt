-- How the origins of a batch's frames are found: both the frames and the ready tasks are in order of path.
use Rattle.std.specs.Prelude.{◌≡◌, ℕ, ◌-◌, ◌<◌, ◌≤◌, Bool, true, false, List, Option, Some, None, length, slice_get, slice_index_or}
use Rattle.std.specs.Ordering.{is_lt}
use Rattle.aerie_base.specs.Paths.{path_cmp, children_of}
use Rattle.live_tasks.specs.declared.origins.Origin.{Origin}
use Rattle.live_tasks.specs.declared.origins.Origin.TheVariants.{Ready, Child}
use Rattle.live_tasks.specs.declared.slots.Slot.{Slot}
use Rattle.live_tasks.specs.Slots.{Slots, slot_at}

-- whether a task comes before a path
abbrev pub is_slot_below : List ℕ → Option Slot → Bool
is_slot_below path None = false
is_slot_below path (Some slot) = is_lt (path_cmp slot.path path)

-- a task has a path
abbrev pub HasSlotPath : List ℕ → Option Slot → Type 0
HasSlotPath path None = ⊥
HasSlotPath path (Some slot) = slot.path ≡ path

-- the tasks of the numbers between two places come before a path
abbrev pub AreBelow : Slots → List ℕ → List ℕ → ℕ → ℕ → Type 0
AreBelow slots path numbers from to =
    (place number : ℕ) → from ≤ place → place < to → slice_get numbers place ≡ Some number → is_slot_below path (slot_at slots number) ≡ true

-- the task of the number at a place does not
abbrev pub IsNotBelow : Slots → List ℕ → List ℕ → ℕ → Type 0
IsNotBelow slots path numbers at = (number : ℕ) → slice_get numbers at ≡ Some number → is_slot_below path (slot_at slots number) ≡ false

-- how many children a path names
abbrev pub depth_of : List ℕ → ℕ
depth_of path = length (children_of path)

-- of the child with the last number of a path, whose maker stands at the place that is kept for the depth above
abbrev pub child_origin : List ℕ → List ℕ → Origin
child_origin path makers = Child (slice_index_or makers (depth_of path - 1) 0) (slice_index_or (children_of path) (depth_of path - 1) 0)

-- of the ready task at a place, where that has the path, and else of a child
pub data IsFoundOrigin (slots : Slots) (numbers : List ℕ) (next : ℕ) (path makers : List ℕ) (origin : Origin) : Type 0 where
  of_ready : (number : ℕ) → slice_get numbers next ≡ Some number → HasSlotPath path (slot_at slots number) → origin ≡ Ready number →
      IsFoundOrigin slots numbers next path makers origin
  of_child : ((number : ℕ) → slice_get numbers next ≡ Some number → HasSlotPath path (slot_at slots number) → ⊥) → origin ≡ child_origin path makers →
      IsFoundOrigin slots numbers next path makers origin
