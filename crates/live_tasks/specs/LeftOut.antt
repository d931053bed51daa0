-- The tasks of the directives that differ are left out.
use Rattle.std.specs.Prelude.{◌≡◌, ℕ, Bool, true, false, Option, Some, None, if◌then◌else◌}
use Rattle.run_data.specs.laws.LateDifferences.{is_of_differing}
use Rattle.live_tasks.specs.declared.slots.Slot.{Slot}
use Rattle.live_tasks.specs.Conditions.{condition_of_slot}
use Rattle.live_tasks.specs.Listing.{is_ready_slot}
use Rattle.live_tasks.specs.Slots.{Slots, slot_at}

-- whether a task is there and is of a directive that differs, or under it
abbrev pub is_slot_of : (ℕ → Bool) → Option Slot → Bool
is_slot_of differs None = false
is_slot_of differs (Some slot) = is_of_differing differs slot.path

abbrev pub common_slot : (ℕ → Bool) → Option Slot → Option Slot
common_slot differs found = if is_slot_of differs found then None else found

-- what is left are the tasks in common, by the same numbers
abbrev pub AreCommon : (ℕ → Bool) → Slots → Slots → Type 0
AreCommon differs old new = (number : ℕ) → slot_at new number ≡ common_slot differs (slot_at old number)

-- none of those that are left out is ready or waits for a condition
abbrev pub AreIdle : (ℕ → Bool) → Slots → Type 0
AreIdle differs slots =
    (number : ℕ) → is_slot_of differs (slot_at slots number) ≡ true → (is_ready_slot (slot_at slots number) ≡ false) × (condition_of_slot (slot_at slots number) ≡ None)
