-- When waiting tasks wake, by the table of the live tasks.
use Rattle.std.proofs.Common.{◌≡◌, ℕ, ◌+◌, List, Option, Some, None, refl, sym, ap, ◌∙◌, subst}
use Rattle.std.specs.Prelude.{IsTrue}
use Rattle.aerie_base.specs.declared.operands.CellRead.{CellRead}
use Rattle.aerie_base.specs.declared.values.Kind.{Kind}
use Rattle.effect_cells.specs.declared.effects.CellState.{CellState}
use Rattle.effect_cells.specs.KeptWakes.{StaysWhileTimePasses}
use Rattle.effect_cells.specs.Solvable.{may_be_solved}
use Rattle.run_data.specs.Tasks.{Table}
use Rattle.run_data.specs.laws.NextTimes.{wake_in, least_wake}
use Rattle.live_tasks.specs.declared.slots.Slot.{Slot}
use Rattle.live_tasks.specs.declared.waits.Waits.{Waits}
use Rattle.live_tasks.specs.Conditions.{condition_of_slot, condition_at, wake_for, MayBeSolved}
use Rattle.live_tasks.specs.LeastTimes.{IsUpToTime, time_of_slot, IsLeastTime}
use Rattle.live_tasks.specs.Listing.{ends_at}
use Rattle.live_tasks.specs.Slots.{Slots, slot_at, AreTable}
use Rattle.live_tasks.specs.Waits.{IsFound}
use Rattle.live_tasks.specs.WakeTimes.{has_wake}
use Rattle.live_tasks.specs.Waking.{AreSolvable, WakesPass}
use Rattle.live_tasks.proofs.KeptWaits.{found_exact, kept_passed}
use Rattle.live_tasks.proofs.LeastTimes.{least_is, up_to_each, least_wake_is}
use Rattle.live_tasks.proofs.Woken.{wake_in_is}

-- what can be solved of a table can of its slots
pub solvable_slots : (kinds : CellRead → Option Kind) (slots : Slots) (table : Table) → AreTable slots table → AreSolvable kinds table → MayBeSolved kinds slots
solvable_slots kinds slots table are solvable number condition waits = by (slot_at slots number) refl waits
  where
    by : (found : Option Slot) → slot_at slots number ≡ found → condition_of_slot found ≡ Some condition → IsTrue (may_be_solved kinds condition)
    by None e f = let k : None ≡ Some condition = f in absurd (cc)
    by (Some slot) e f = solvable slot.path slot.task condition (are.tasks number slot e) f

wake_of_slot : (now horizon : ℕ) (cells : List CellState) (found : Option Slot) → wake_for now horizon cells (condition_of_slot found) ≡ time_of_slot (wake_in now horizon cells) found
wake_of_slot now horizon cells None = refl
wake_of_slot now horizon cells (Some slot) = sym (wake_in_is now horizon cells slot.task.phase)

module _ (now horizon : ℕ) (cells : List CellState) (slots : Slots) (table : Table) (waits : Waits) (are : AreTable slots table) (found : IsFound now horizon cells (condition_at slots) waits) where
  exact : (time number : ℕ) → has_wake waits.times.wakes time number ≡ ends_at time (time_of_slot (wake_in now horizon cells) (slot_at slots number))
  exact time number = found_exact now horizon cells (condition_at slots) waits found time number ∙ ap (ends_at time) (wake_of_slot now horizon cells (slot_at slots number))

  -- the least that is kept is the least of the table
  pub least_kept : (wake : Option ℕ) → IsLeastTime (has_wake waits.times.wakes) wake → wake ≡ least_wake now horizon cells table
  least_kept wake least = least_is (wake_in now horizon cells) slots table (has_wake waits.times.wakes) are exact wake least ∙ sym (least_wake_is now horizon cells table)

  -- and none is before a time up to that
  up_to : (time : ℕ) → IsUpToTime time (least_wake now horizon cells table) → (number : ℕ) → IsUpToTime time (wake_for now horizon cells (condition_at slots number))
  up_to time up number =
      subst (IsUpToTime time) (sym (wake_of_slot now horizon cells (slot_at slots number)))
      (up_to_each (wake_in now horizon cells) slots table (has_wake waits.times.wakes) are exact time (subst (IsUpToTime time) (least_wake_is now horizon cells table) up) number)

pub wakes_pass_by : StaysWhileTimePasses → WakesPass
wakes_pass_by law now dt horizon cells tasks in_step found up most =
    kept_passed law now dt horizon cells (condition_at tasks.tables.slots.slots) tasks.tables.waits found
    (up_to now horizon cells tasks.tables.slots.slots _ tasks.tables.waits in_step.live_.are found (now + dt) up) most
