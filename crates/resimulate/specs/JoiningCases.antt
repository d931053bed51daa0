-- Worked cases: one task alone. Under way are tasks that have not ended and that are listed where they are ready.
use Rattle.std.specs.Prelude.{◌≡◌, ℕ, zero, suc, true, List, [], ◌∷◌, Some, None}
use Rattle.std.proofs.Common.{ap, subst}
use Rattle.aerie_base.specs.Paths.{root}
use Rattle.run_data.specs.declared.tasks.TaskState.{TaskState}
use Rattle.run_data.specs.Tasks.{TaskPhase, ready, over, Table}
use Rattle.live_tasks.specs.declared.slots.Slot.{Slot}
use Rattle.live_tasks.specs.declared.tasks.LiveTasks.{LiveTasks}
use Rattle.live_tasks.specs.Endings.{IsNumberAmong}
use Rattle.live_tasks.specs.InStep.{slots_in}
use Rattle.live_tasks.specs.Joining.{AreUnderWay}
use Rattle.live_tasks.specs.Listing.{is_ready_slot}
use Rattle.live_tasks.specs.PlannedTasks.{HasNoTask, slot_of_root}
use Rattle.live_tasks.specs.Slots.{Slots, slot_at, HasSlot}

module _ (state : TaskState) where
  -- a directive in this phase, with its path as the first of all numbers
  abbrev pub first_in : TaskPhase → Slot
  first_in phase = slot_of_root (root 1) (record { phase = phase; made = 0; begun = true })

  abbrev pub one_in : TaskPhase → Slots
  one_in phase = Some (first_in phase) ∷ []

  abbrev pub table_in_phase : TaskPhase → Table
  table_in_phase phase = (root 1, record { phase = phase; made = 0; begun = true }) ∷ []

  -- ---- what is not under way

  pub not_one_that_has_ended : (tasks : LiveTasks) → slots_in tasks ≡ one_in (over None) → AreUnderWay (table_in_phase (over None)) tasks → ⊥
  not_one_that_has_ended tasks are under_way = (let open_ = under_way.settled 0 (first_in (over None)) (ap (λ (slots : Slots). slot_at slots 0) are) in absurd (cc))

  pub not_a_ready_one_that_is_not_listed : (tasks : LiveTasks) → slots_in tasks ≡ one_in (ready state) → tasks.tables.readies.items ≡ [] → AreUnderWay (table_in_phase (ready state)) tasks → ⊥
  not_a_ready_one_that_is_not_listed tasks are none under_way =
      subst (IsNumberAmong 0) none (under_way.listed.readies_.all 0 (ap (λ (slots : Slots). is_ready_slot (slot_at slots 0)) are))

  -- ---- paths

  has_the_first_path : (path : List ℕ) → HasSlot (one_in (ready state)) path → root 1 ≡ path
  has_the_first_path path there = by there.number there.slot there.there there.is
    where
      by : (number : ℕ) (slot : Slot) → slot_at (one_in (ready state)) number ≡ Some slot → slot.path ≡ path → root 1 ≡ path
      by zero slot found is = (let same : first_in (ready state) ≡ slot = cc in cc)
      by (suc more) slot found is = absurd (cc)

  pub the_second_directive_has_no_task : (tasks : LiveTasks) → slots_in tasks ≡ one_in (ready state) → HasNoTask tasks (root 2)
  the_second_directive_has_no_task tasks are there = (let same = has_the_first_path (root 2) (subst (λ (slots : Slots). HasSlot slots (root 2)) are there) in absurd (cc))
