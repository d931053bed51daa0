-- The ready tasks, one behind the others.
use Rattle.std.proofs.Common.{◌≡◌, ℕ, List, [], ◌∷◌, ◌++◌, Option, Some, None, refl, ap}
use Rattle.live_tasks.specs.declared.readies.ReadyTask.{ReadyTask}
use Rattle.live_tasks.specs.declared.slots.Slot.{Slot}
use Rattle.live_tasks.specs.Slots.{Slots, slot_at}
use Rattle.live_tasks.specs.Readies.{with_ready, ready_tasks}

pub append_nothing : (ready : List ReadyTask) → ready ++ [] ≡ ready
append_nothing [] = refl
append_nothing (first ∷ rest) = ap (λ all. first ∷ all) (append_nothing rest)

one_behind : (ready : List ReadyTask) (one : ReadyTask) (rest : List ReadyTask) → (ready ++ one ∷ []) ++ rest ≡ ready ++ one ∷ rest
one_behind [] one rest = refl
one_behind (first ∷ ready) one rest = ap (λ all. first ∷ all) (one_behind ready one rest)

pub ready_append : (slots : Slots) (ready : List ReadyTask) (number : ℕ) (rest : List ℕ) →
    (ready ++ with_ready number (slot_at slots number) []) ++ ready_tasks slots rest ≡ ready ++ ready_tasks slots (number ∷ rest)
ready_append slots ready number rest = by (slot_at slots number)
  where
    by : (found : Option Slot) → (ready ++ with_ready number found []) ++ ready_tasks slots rest ≡ ready ++ with_ready number found (ready_tasks slots rest)
    by None = ap (λ all. all ++ ready_tasks slots rest) (append_nothing ready)
    by (Some slot) = one_behind ready (record { path = slot.path; number = number }) (ready_tasks slots rest)
