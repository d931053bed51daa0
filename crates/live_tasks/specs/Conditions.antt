-- What the live tasks wait for.
use Rattle.std.specs.Prelude.{◌≡◌, ℕ, ◌-◌, IsTrue, List, Option, Some, None}
use Rattle.aerie_base.specs.declared.conditions.Cond.{Cond}
use Rattle.aerie_base.specs.declared.operands.CellRead.{CellRead}
use Rattle.aerie_base.specs.declared.values.Kind.{Kind}
use Rattle.effect_cells.specs.declared.effects.CellState.{CellState}
use Rattle.effect_cells.specs.Solvable.{may_be_solved}
use Rattle.effect_cells.specs.WakeTimes.{wake_time}
use Rattle.run_data.specs.Fresh.{from_now}
use Rattle.live_tasks.specs.declared.slots.Slot.{Slot}
use Rattle.live_tasks.specs.Phases.{condition_of_wait}
use Rattle.live_tasks.specs.Slots.{Slots, slot_at}

abbrev pub condition_of_slot : Option Slot → Option Cond
condition_of_slot None = None
condition_of_slot (Some slot) = condition_of_wait slot.task.phase

-- what the task of a number waits for
abbrev pub condition_at : Slots → ℕ → Option Cond
condition_at slots number = condition_of_slot (slot_at slots number)

-- each task waits for what it waited for
abbrev pub WaitAlike : Slots → Slots → Type 0
WaitAlike before after = (number : ℕ) → condition_at after number ≡ condition_at before number

-- when one wakes, before the horizon, that waits for this
abbrev pub wake_for : ℕ → ℕ → List CellState → Option Cond → Option ℕ
wake_for now horizon cells None = None
wake_for now horizon cells (Some condition) = from_now now (wake_time cells condition (horizon - now))

-- the wake time of each waiting task can be computed
abbrev pub MayBeSolved : (CellRead → Option Kind) → Slots → Type 0
MayBeSolved kinds slots = (number : ℕ) (condition : Cond) → condition_at slots number ≡ Some condition → IsTrue (may_be_solved kinds condition)
