-- What changes of a task leave of its being ready or delayed.
use Rattle.std.proofs.Common.{◌≡◌, ◌⊎◌, inl, inr, ℕ, nat_eq, Bool, true, false, Option, Some, None, is_some, option_map, refl, sym, ap, ◌∙◌, if◌then◌else◌}
use Rattle.std.proofs.lemmas.Bool.{false≢true}
use Rattle.aerie_base.specs.declared.values.Value.{Value}
use Rattle.aerie_base.specs.declared.plans.Edge.{Edge}
use Rattle.run_data.specs.Endings.{with_result}
use Rattle.run_data.specs.Tasks.{TaskPhase, anchored, ready, delayed, waiting, calling, over}
use Rattle.run_data.specs.laws.NextTimes.{delay_in}
use Rattle.run_data.specs.laws.ReadyTasks.{is_ready_phase}
use Rattle.live_tasks.specs.declared.slots.Slot.{Slot}
use Rattle.live_tasks.specs.Phases.{phase_with_return, phase_when_due}
use Rattle.live_tasks.specs.Endings.{slot_after_child_end, slot_when_due}
use Rattle.live_tasks.specs.Listing.{is_ready_slot, delay_of_slot}

pub some_ready : (found : Option Slot) → is_ready_slot found ≡ true → (slot : Slot) × (found ≡ Some slot)
some_ready None e = absurd (false≢true e)
some_ready (Some slot) e = (slot, refl)

-- what is ready is not delayed
pub ready_no_delay : (found : Option Slot) → is_ready_slot found ≡ true → delay_of_slot found ≡ None
ready_no_delay None e = refl
ready_no_delay (Some slot) e = by slot.task.phase e
  where
    by : (phase : TaskPhase) → is_ready_phase phase ≡ true → delay_in phase ≡ None
    by (ready state) f = refl
    by (anchored to edge start state) f = refl
    by (delayed until state) f = absurd (false≢true f)
    by (waiting condition state) f = refl
    by (calling child into state) f = refl
    by (over result) f = refl

pub no_delay : (delay : Option ℕ) → is_some delay ≡ false → delay ≡ None
no_delay None e = refl
no_delay (Some time) e = absurd (false≢true (sym e))

-- ---- a child has ended

module _ (own : ℕ) (result : Option Value) where
  return_delay : (phase : TaskPhase) → delay_in phase ≡ delay_in (phase_with_return own result phase)
  return_delay (calling child into state) = by (nat_eq child own)
    where
      by : (b : Bool) → None ≡ delay_in (if b then ready (with_result into result state) else calling child into state)
      by true = refl
      by false = refl
  return_delay (anchored to edge start state) = refl
  return_delay (ready state) = refl
  return_delay (delayed until state) = refl
  return_delay (waiting condition state) = refl
  return_delay (over value) = refl

  return_ready : (phase : TaskPhase) → is_ready_phase phase ≡ true → is_ready_phase (phase_with_return own result phase) ≡ true
  return_ready (calling child into state) e = absurd (false≢true e)
  return_ready (anchored to edge start state) e = e
  return_ready (ready state) e = e
  return_ready (delayed until state) e = e
  return_ready (waiting condition state) e = e
  return_ready (over value) e = e

  pub told_delay : (found : Option Slot) → delay_of_slot found ≡ delay_of_slot (option_map (slot_after_child_end own result) found)
  told_delay None = refl
  told_delay (Some slot) = return_delay slot.task.phase

  pub told_ready : (found : Option Slot) → is_ready_slot found ≡ true → is_ready_slot (option_map (slot_after_child_end own result) found) ≡ true
  told_ready None e = e
  told_ready (Some slot) e = return_ready slot.task.phase e

-- ---- an edge has come

module _ (now to : ℕ) (edge : Edge) where
  due_delay : (phase : TaskPhase) → (delay_in phase ≡ None) ⊎ (delay_in phase ≡ delay_in (phase_when_due now to edge phase))
  due_delay (calling child into state) = inl refl
  due_delay (anchored id at start state) = inl refl
  due_delay (ready state) = inl refl
  due_delay (delayed until state) = inr refl
  due_delay (waiting condition state) = inl refl
  due_delay (over value) = inl refl

  due_ready : (phase : TaskPhase) → is_ready_phase phase ≡ true → is_ready_phase (phase_when_due now to edge phase) ≡ true
  due_ready (calling child into state) e = e
  due_ready (anchored id at start state) e = absurd (false≢true e)
  due_ready (ready state) e = e
  due_ready (delayed until state) e = e
  due_ready (waiting condition state) e = e
  due_ready (over value) e = e

  due_delay_slot : (found : Option Slot) → (delay_of_slot found ≡ None) ⊎ (delay_of_slot found ≡ delay_of_slot (option_map (slot_when_due now to edge) found))
  due_delay_slot None = inl refl
  due_delay_slot (Some slot) = due_delay slot.task.phase

  -- what was delayed has the same delay
  pub fallen_delay : (found : Option Slot) → is_some (delay_of_slot found) ≡ true → delay_of_slot found ≡ delay_of_slot (option_map (slot_when_due now to edge) found)
  fallen_delay found some = by (due_delay_slot found)
    where
      by : (delay_of_slot found ≡ None) ⊎ (delay_of_slot found ≡ delay_of_slot (option_map (slot_when_due now to edge) found)) → delay_of_slot found ≡ delay_of_slot (option_map (slot_when_due now to edge) found)
      by (inl e) = absurd (false≢true (sym (ap is_some e) ∙ some))
      by (inr e) = e

  pub fallen_ready : (found : Option Slot) → is_ready_slot found ≡ true → is_ready_slot (option_map (slot_when_due now to edge) found) ≡ true
  fallen_ready None e = e
  fallen_ready (Some slot) e = due_ready slot.task.phase e

pub some_map : (change : Slot → Slot) (found : Option Slot) → is_some found ≡ true → is_some (option_map change found) ≡ true
some_map change None e = e
some_map change (Some slot) e = refl
