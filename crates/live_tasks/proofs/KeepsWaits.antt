-- What a change of the live tasks leaves of what is kept of waiting tasks.
use Rattle.std.proofs.Common.{◌≡◌, ◌≢◌, ◌⊎◌, inl, inr, ℕ, zero, suc, nat_eq, Bool, true, false, not, ◌&&◌, List, [], Option, Some, None, option_map, length, refl, sym, ap, ◌∙◌, subst, if◌then◌else◌}
use Rattle.std.proofs.lemmas.Bool.{false≢true}
use Rattle.aerie_base.specs.declared.plans.Edge.{Edge}
use Rattle.aerie_base.specs.declared.values.Value.{Value}
use Rattle.effect_cells.specs.declared.effects.CellState.{CellState}
use Rattle.run_data.specs.Endings.{is_open, with_result}
use Rattle.run_data.specs.Tasks.{TaskPhase, anchored, ready, delayed, waiting, calling, over, after_delay, rested, rested_phase}
use Rattle.run_data.specs.declared.tasks.TaskState.{TaskState}
use Rattle.run_data.specs.laws.PathsUnder.{both_true}
use Rattle.run_data.specs.laws.ReadyTasks.{is_ready_phase}
use Rattle.live_tasks.specs.declared.listed_slots.ListedSlots.{ListedSlots}
use Rattle.live_tasks.specs.declared.slots.Slot.{Slot}
use Rattle.live_tasks.specs.declared.waits.Waits.{Waits}
use Rattle.live_tasks.specs.Changes.{slot_changed}
use Rattle.live_tasks.specs.Conditions.{condition_of_slot, condition_at, WaitAlike}
use Rattle.live_tasks.specs.Endings.{slot_has_ended, slot_after_child_end, slot_when_due, slot_with_child}
use Rattle.live_tasks.specs.ListedSlots.{AreWaitsKept, KeepsWaits}
use Rattle.live_tasks.specs.Listing.{is_ready_slot}
use Rattle.live_tasks.specs.Phases.{condition_of_wait, is_same_edge, phase_with_return, phase_when_due}
use Rattle.live_tasks.specs.Slots.{Slots, Becomes}
use Rattle.live_tasks.specs.WakeTimes.{AreWakesOf}
use Rattle.live_tasks.specs.Waits.{wait_of, IsKept, BeginsWaitIfAny}
use Rattle.live_tasks.proofs.Forests.{same_or_not}
use Rattle.live_tasks.proofs.KeptWaits.{kept_none, kept_alike, kept_begun}

-- ---- one after another

pub keeps_same : (tables : ListedSlots) → KeepsWaits tables tables
keeps_same tables now horizon cells kept = kept

pub keeps_then : (first second third : ListedSlots) → KeepsWaits first second → KeepsWaits second third → KeepsWaits first third
keeps_then first second third one two now horizon cells kept = two now horizon cells (one now horizon cells kept)

-- ---- where each waits for what it waited for

-- what is kept of tables is of these slots and waits
abbrev pub KeepsIn : ListedSlots → Slots → Waits → Type 0
KeepsIn before slots waits = (now horizon : ℕ) (cells : List CellState) → AreWaitsKept now horizon cells before → IsKept now horizon cells (condition_at slots) waits

pub keeps_alike : (before : ListedSlots) (slots : Slots) (waits : Waits) → WaitAlike before.slots.slots slots → waits ≡ before.waits → KeepsIn before slots waits
keeps_alike before slots waits alike same now horizon cells kept =
    subst (λ (w : Waits). IsKept now horizon cells (condition_at slots) w) (sym same) (kept_alike now horizon cells (condition_at before.slots.slots) (condition_at slots) before.waits alike kept)

-- one number has another task, which waits for the same
pub becomes_alike : (old new : Slots) (number : ℕ) (found : Option Slot) → Becomes old new number found → condition_of_slot found ≡ condition_at old number → WaitAlike old new
becomes_alike old new number found becomes same n = by (same_or_not n number)
  where
    by : (n ≡ number) ⊎ (n ≢ number) → condition_at new n ≡ condition_at old n
    by (inl e) = ap (condition_at new) e ∙ ap condition_of_slot becomes.is_there ∙ same ∙ ap (condition_at old) (sym e)
    by (inr apart) = ap condition_of_slot (becomes.others n apart)

pub same_alike : (old new : Slots) → new ≡ old → WaitAlike old new
same_alike old new same n = ap (λ (s : Slots). condition_at s n) same

-- ---- the task of one number after a change

told_phase : (own : ℕ) (result : Option Value) (phase : TaskPhase) → condition_of_wait (phase_with_return own result phase) ≡ condition_of_wait phase
told_phase own result (calling child into state) = by (nat_eq child own)
  where
    by : (b : Bool) → condition_of_wait (if b then ready (with_result into result state) else calling child into state) ≡ None
    by true = refl
    by false = refl
told_phase own result (anchored to edge start state) = refl
told_phase own result (ready state) = refl
told_phase own result (delayed until state) = refl
told_phase own result (waiting condition state) = refl
told_phase own result (over value) = refl

pub told_waits : (own : ℕ) (result : Option Value) (found : Option Slot) → condition_of_slot (option_map (slot_after_child_end own result) found) ≡ condition_of_slot found
told_waits own result None = refl
told_waits own result (Some slot) = told_phase own result slot.task.phase

after_delay_waits : (now by_ : ℕ) (state : TaskState) → condition_of_wait (after_delay now by_ state) ≡ None
after_delay_waits now zero state = refl
after_delay_waits now (suc less) state = refl

due_phase : (now to : ℕ) (edge : Edge) (phase : TaskPhase) → condition_of_wait (phase_when_due now to edge phase) ≡ condition_of_wait phase
due_phase now to edge (anchored id at start state) = by (nat_eq id to && is_same_edge at edge)
  where
    by : (b : Bool) → condition_of_wait (if b then after_delay now start state else anchored id at start state) ≡ None
    by true = after_delay_waits now start state
    by false = refl
due_phase now to edge (ready state) = refl
due_phase now to edge (delayed until state) = refl
due_phase now to edge (waiting condition state) = refl
due_phase now to edge (calling child into state) = refl
due_phase now to edge (over value) = refl

pub due_waits : (now to : ℕ) (edge : Edge) (found : Option Slot) → condition_of_slot (option_map (slot_when_due now to edge) found) ≡ condition_of_slot found
due_waits now to edge None = refl
due_waits now to edge (Some slot) = due_phase now to edge slot.task.phase

rested_waits_phase : (now : ℕ) (phase : TaskPhase) → condition_of_wait (rested_phase now phase) ≡ condition_of_wait phase
rested_waits_phase now (delayed until state) = by (nat_eq until now)
  where
    by : (b : Bool) → condition_of_wait (if b then ready state else delayed until state) ≡ None
    by true = refl
    by false = refl
rested_waits_phase now (anchored id at start state) = refl
rested_waits_phase now (ready state) = refl
rested_waits_phase now (waiting condition state) = refl
rested_waits_phase now (calling child into state) = refl
rested_waits_phase now (over value) = refl

pub rested_waits : (now : ℕ) (found : Option Slot) → condition_of_slot (option_map (slot_changed (rested now)) found) ≡ condition_of_slot found
rested_waits now None = refl
rested_waits now (Some slot) = rested_waits_phase now slot.task.phase

pub counted_waits : (found : Option Slot) → condition_of_slot (option_map slot_with_child found) ≡ condition_of_slot found
counted_waits None = refl
counted_waits (Some slot) = refl

-- who has ended does not wait
pub ended_waits : (found : Option Slot) → slot_has_ended found ≡ true → None ≡ condition_of_slot found
ended_waits None e = refl
ended_waits (Some slot) e = by slot.task.phase (both_true (not (is_open slot.task.phase)) (nat_eq slot.live_below 0) e).0
  where
    by : (phase : TaskPhase) → not (is_open phase) ≡ true → None ≡ condition_of_wait phase
    by (waiting condition state) f = absurd (false≢true f)
    by (anchored id at start state) f = refl
    by (ready state) f = refl
    by (delayed until state) f = refl
    by (calling child into state) f = refl
    by (over value) f = refl

-- nor does who is ready
pub ready_waits : (found : Option Slot) → is_ready_slot found ≡ true → condition_of_slot found ≡ None
ready_waits None e = refl
ready_waits (Some slot) e = by slot.task.phase e
  where
    by : (phase : TaskPhase) → is_ready_phase phase ≡ true → condition_of_wait phase ≡ None
    by (waiting condition state) f = absurd (false≢true f)
    by (anchored id at start state) f = refl
    by (ready state) f = refl
    by (delayed until state) f = refl
    by (calling child into state) f = refl
    by (over value) f = refl

-- ---- one number may begin to wait

pub keeps_begun : (before : ListedSlots) (slots : Slots) (waits : Waits) (number : ℕ) (found : Option Slot) → Becomes before.slots.slots slots number found → condition_at before.slots.slots number ≡ None →
    BeginsWaitIfAny number (condition_at slots number) before.waits waits → KeepsIn before slots waits
keeps_begun before slots waits number found becomes none begins now horizon cells kept =
    kept_begun now horizon cells (condition_at before.slots.slots) (condition_at slots) number before.waits waits begins none (λ n apart. ap condition_of_slot (becomes.others n apart)) kept

-- ---- the same, once the task is listed too

pub keeps_listed : (before : ListedSlots) (slots middle : Slots) (waits : Waits) (number : ℕ) (found : Option Slot) → Becomes before.slots.slots middle number found →
    condition_of_slot found ≡ condition_at before.slots.slots number → slots ≡ middle → waits ≡ before.waits → KeepsIn before slots waits
keeps_listed before slots middle waits number found becomes same is =
    keeps_alike before slots waits (λ n. ap (λ (s : Slots). condition_at s n) is ∙ becomes_alike before.slots.slots middle number found becomes same n)

pub begun_listed : (before : ListedSlots) (slots middle : Slots) (between waits : Waits) (number : ℕ) (found : Option Slot) → Becomes before.slots.slots middle number found →
    condition_at before.slots.slots number ≡ None → slots ≡ middle → between ≡ before.waits → BeginsWaitIfAny number (condition_at slots number) between waits → KeepsIn before slots waits
begun_listed before slots middle between waits number found becomes none is same begins =
    keeps_begun before slots waits number found (subst (λ (s : Slots). Becomes before.slots.slots s number found) (sym is) becomes) none
    (subst (λ (w : Waits). BeginsWaitIfAny number (condition_at slots number) w waits) same begins)

-- ---- nobody waits

pub none_kept : (slots : Slots) (waits : Waits) (count : ℕ) → slots ≡ [] → ((n : ℕ) → wait_of waits n ≡ None) → AreWakesOf waits.times → length waits.watchers ≡ count →
    (now horizon : ℕ) (cells : List CellState) → length cells ≡ count → IsKept now horizon cells (condition_at slots) waits
none_kept slots waits count empty nobody times by_cell now horizon cells long =
    kept_none now horizon cells (condition_at slots) waits (λ n. ap (λ (s : Slots). condition_at s n) empty) nobody times (by_cell ∙ sym long)
