-- Changes of each task by itself, between batches: rested, woken.
use Rattle.std.specs.Prelude.{◌≡◌, ℕ, List, Option, option_map}
use Rattle.aerie_base.specs.declared.plans.Edge.{Edge}
use Rattle.run_data.specs.declared.tasks.TaskState.{TaskState}
use Rattle.run_data.specs.Endings.{is_open}
use Rattle.run_data.specs.Tasks.{calling, anchored, Task, Table, on_each}
use Rattle.live_tasks.specs.declared.slots.Slot.{Slot}
use Rattle.live_tasks.specs.Slots.{Slots, slot_at}
use Rattle.live_tasks.specs.Endings.{AreLive}

abbrev pub slot_changed : (List ℕ → Task → Task) → Slot → Slot
slot_changed change slot = record slot { task = change slot.path slot.task }

-- each task is as a change leaves it
abbrev pub AreChanged : (List ℕ → Task → Task) → Slots → Slots → Type 0
AreChanged change old new = (number : ℕ) → slot_at new number ≡ option_map (slot_changed change) (slot_at old number)

-- a change that leaves bodies open and begun, and makes nobody wait
pub record KeepsKinds (change : List ℕ → Task → Task) : Type 0 where
  pub open_ : (path : List ℕ) (task : Task) → is_open (change path task).phase ≡ is_open task.phase
  pub begun_ : (path : List ℕ) (task : Task) → (change path task).begun ≡ task.begun
  pub call : (path : List ℕ) (task : Task) (child : ℕ) (into : Option ℕ) (state : TaskState) → (change path task).phase ≡ calling child into state → task.phase ≡ calling child into state
  pub anchor : (path : List ℕ) (task : Task) (to : ℕ) (edge : Edge) (start : ℕ) (state : TaskState) → (change path task).phase ≡ anchored to edge start state → task.phase ≡ anchored to edge start state

abbrev pub ChangesKeepLive : Type 0
ChangesKeepLive =
    (change : List ℕ → Task → Task) (table : Table) (old new : Slots) → KeepsKinds change → AreLive table old →
    AreChanged change old new → AreLive (on_each change table) new
