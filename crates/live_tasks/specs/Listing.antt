-- Which of the live tasks are ready, and when the delays of the others end: lists by number.
use Rattle.std.specs.Prelude.{◌≡◌, ℕ, ◌&&◌, ◌||◌, Bool, true, false, not, List, [], ◌∷◌, ◌++◌, Option, Some, None, nat_eq, is_some, slice_get, if◌then◌else◌}
use Rattle.std.specs.Ordering.{nat_cmp, ordering_then}
use Rattle.std.specs.declared.cmp.Ordering.{Ordering}
use Rattle.std.specs.declared.cmp.Reverse.{Reverse}
use Rattle.std.specs.BinaryHeap.{IsHeap}
use Rattle.std.specs.List.{IsDistinct, list_any}
use Rattle.run_data.specs.laws.NextTimes.{delay_in}
use Rattle.run_data.specs.laws.ReadyTasks.{is_ready_phase}
use Rattle.live_tasks.specs.declared.slots.Slot.{Slot}
use Rattle.live_tasks.specs.Slots.{Slots, slot_at}
use Rattle.live_tasks.specs.Endings.{IsNumberAmong}

-- ---- one task

-- whether a task is there and ready
abbrev pub is_ready_slot : Option Slot → Bool
is_ready_slot None = false
is_ready_slot (Some slot) = is_ready_phase slot.task.phase

-- when its delay ends
abbrev pub delay_of_slot : Option Slot → Option ℕ
delay_of_slot None = None
delay_of_slot (Some slot) = delay_in slot.task.phase

-- ---- the ready tasks

-- no number comes twice
abbrev pub HaveNoRepeats : List ℕ → Type 0
HaveNoRepeats [] = Unit {0}
HaveNoRepeats (number ∷ rest) = (IsNumberAmong number rest → ⊥) × HaveNoRepeats rest

-- the numbers with one more behind them, where it is to be listed
abbrev pub listed_if : Bool → ℕ → List ℕ → List ℕ
listed_if true number numbers = numbers ++ number ∷ []
listed_if false number numbers = numbers

-- whether a task is ready that was not
abbrev pub is_newly_ready : Bool → Option Slot → Bool
is_newly_ready was found = is_ready_slot found && not was

-- of some numbers those of ready tasks
abbrev pub ready_among : Slots → List ℕ → List ℕ
ready_among slots [] = []
ready_among slots (number ∷ rest) = if is_ready_slot (slot_at slots number) then number ∷ ready_among slots rest else ready_among slots rest

-- each ready task is among these numbers, and each of them has a task
pub record HaveAllReady (slots : Slots) (numbers : List ℕ) : Type 0 where
  pub there : (number : ℕ) → IsNumberAmong number numbers → is_some (slot_at slots number) ≡ true
  pub all : (number : ℕ) → is_ready_slot (slot_at slots number) ≡ true → IsNumberAmong number numbers
  pub once : HaveNoRepeats numbers

-- each of these numbers has a ready task
abbrev pub AreReadyAlone : Slots → List ℕ → Type 0
AreReadyAlone slots numbers = (number : ℕ) → IsNumberAmong number numbers → is_ready_slot (slot_at slots number) ≡ true

-- ---- the ends of delays

-- when a delay ends, and the number of its task; what ends first is the greatest, as a heap wants it
abbrev pub DelayEnd : Type 0
DelayEnd = Reverse (ℕ × ℕ)

abbrev pub delay_end : ℕ → ℕ → DelayEnd
delay_end time number = record { 0 = (time, number) }

abbrev pub is_same_end : DelayEnd → DelayEnd → Bool
is_same_end x y = nat_eq x.0.0 y.0.0 && nat_eq x.0.1 y.0.1

-- by time, and by number where the times are the same
abbrev pub end_cmp : DelayEnd → DelayEnd → Ordering
end_cmp x y = ordering_then (nat_cmp y.0.0 x.0.0) (nat_cmp y.0.1 x.0.1)

-- whether the end of a delay at a time stands there with a number
abbrev pub has_delay : List DelayEnd → ℕ → ℕ → Bool
has_delay ends time number = list_any (is_same_end (delay_end time number)) ends

abbrev pub ends_at : ℕ → Option ℕ → Bool
ends_at time None = false
ends_at time (Some other) = nat_eq other time

-- they are a heap, in which none comes twice
pub record IsDelayHeap (ends : List DelayEnd) : Type 0 where
  pub ordered : IsHeap end_cmp ends
  pub once : IsDistinct is_same_end ends

-- the end of each delay stands there with the number of its task, and nothing else does
pub record AreDelays (slots : Slots) (ends : List DelayEnd) : Type 0 where
  pub heap : IsDelayHeap ends
  pub exact : (time number : ℕ) → has_delay ends time number ≡ ends_at time (delay_of_slot (slot_at slots number))

-- when the delay of a task ends, where that does not stand there already
abbrev pub newly_delayed : Bool → Option Slot → Option ℕ
newly_delayed true found = None
newly_delayed false found = delay_of_slot found

-- with the end of one more delay
abbrev pub HasDelayToo : ℕ → Option ℕ → List DelayEnd → List DelayEnd → Type 0
HasDelayToo number delay before after =
    (t n : ℕ) → has_delay after t n ≡ (has_delay before t n || (nat_eq number n && ends_at t delay))

-- the end of a delay does not stand there with a number
abbrev pub IsNewDelay : ℕ → Option ℕ → List DelayEnd → Type 0
IsNewDelay number delay ends = (time : ℕ) → ends_at time delay ≡ true → has_delay ends time number ≡ false

-- with one more that is new they stay a heap
abbrev pub StaysHeap : ℕ → Option ℕ → List DelayEnd → List DelayEnd → Type 0
StaysHeap number delay before after = IsNewDelay number delay before → IsDelayHeap before → IsDelayHeap after

-- a delay that ends at a time is the first
abbrev pub IsFirstEnd : ℕ → ℕ → List DelayEnd → Type 0
IsFirstEnd time number ends = slice_get ends 0 ≡ Some (delay_end time number)

-- without the end of a delay at a time
abbrev pub HasDelayNoMore : ℕ → ℕ → List DelayEnd → List DelayEnd → Type 0
HasDelayNoMore number time before after =
    (t n : ℕ) → has_delay after t n ≡ (has_delay before t n && not (nat_eq number n && nat_eq time t))

-- ---- both

-- what is listed of the live tasks: all that are ready, and all delays
pub record AreTasksListed (slots : Slots) (readies : List ℕ) (ends : List DelayEnd) : Type 0 where
  pub readies_ : HaveAllReady slots readies
  pub delays_ : AreDelays slots ends

-- and only those that are ready
pub record AreOnlyListed (slots : Slots) (readies : List ℕ) (ends : List DelayEnd) : Type 0 where
  pub all : AreTasksListed slots readies ends
  pub alone : AreReadyAlone slots readies
