-- The waiting tasks whose wake time is now go on, one after another.
use Rattle.std.proofs.Common.{◌≡◌, ◌≢◌, ◌⊎◌, inl, inr, ℕ, ◌+◌, ◌-◌, ◌<◌, ◌≤◌, nat_eq, Bool, true, false, not, ◌&&◌, List, [], ◌∷◌, ◌++◌, Option, Some, None, is_some, option_map, refl, sym, ap, ◌∙◌, subst, arith, if◌then◌else◌}
use Rattle.std.proofs.lemmas.Bool.{false≢true}
use Rattle.std.proofs.lemmas.Bool.Decides.{nat_tests}
use Rattle.aerie_base.specs.declared.conditions.Cond.{Cond}
use Rattle.aerie_base.specs.declared.plans.Edge.{Edge}
use Rattle.effect_cells.specs.declared.effects.CellState.{CellState}
use Rattle.effect_cells.specs.KeptWakes.{HoldsWhereItWakesNow}
use Rattle.effect_cells.specs.WakeTimes.{holds_on, wake_time}
use Rattle.run_data.specs.declared.tasks.TaskState.{TaskState}
use Rattle.run_data.specs.Endings.{is_open}
use Rattle.run_data.specs.Fresh.{from_now}
use Rattle.run_data.specs.Tasks.{TaskPhase, anchored, ready, delayed, waiting, calling, over, woken, woken_phase}
use Rattle.run_data.specs.laws.NextTimes.{wake_in, delay_in}
use Rattle.run_data.specs.laws.ReadyTasks.{is_ready_phase}
use Rattle.live_tasks.specs.declared.slots.Slot.{Slot}
use Rattle.live_tasks.specs.declared.waits.Waits.{Waits}
use Rattle.live_tasks.specs.Changes.{slot_changed, AreChanged, KeepsKinds}
use Rattle.live_tasks.specs.Conditions.{condition_of_slot, condition_at, wake_for}
use Rattle.live_tasks.specs.LeastTimes.{IsNoneBefore}
use Rattle.live_tasks.specs.Listing.{is_ready_slot, delay_of_slot, listed_if, HaveAllReady, AreReadyAlone, DelayEnd, has_delay, ends_at, AreOnlyListed}
use Rattle.live_tasks.specs.Phases.{condition_of_wait, phase_after_wait, after_wait}
use Rattle.live_tasks.specs.Slots.{Slots, slot_at, Becomes}
use Rattle.live_tasks.specs.Waits.{IsFound, EndsWait}
use Rattle.live_tasks.specs.WakeTimes.{has_wake}
use Rattle.live_tasks.proofs.Forests.{same_or_not}
use Rattle.live_tasks.proofs.KeptWaits.{found_exact, found_ended}
use Rattle.live_tasks.proofs.ListedChanges.{some_map}
use Rattle.live_tasks.proofs.ListedNumbers.{readies_become, alone_become}

-- ---- by phase and by condition

-- when a task wakes, by what it waits for
pub wake_in_is : (now horizon : ℕ) (cells : List CellState) (phase : TaskPhase) → wake_in now horizon cells phase ≡ wake_for now horizon cells (condition_of_wait phase)
wake_in_is now horizon cells (waiting condition state) = refl
wake_in_is now horizon cells (anchored to edge start state) = refl
wake_in_is now horizon cells (ready state) = refl
wake_in_is now horizon cells (delayed until state) = refl
wake_in_is now horizon cells (calling child into state) = refl
wake_in_is now horizon cells (over result) = refl

ends_there : (time : ℕ) (found : Option ℕ) → ends_at time found ≡ true → found ≡ Some time
ends_there time None e = absurd (false≢true e)
ends_there time (Some other) e = let k : other ≡ time = grind (arith, nat_tests) in ap Some k

waits_if : (now horizon : ℕ) (cells : List CellState) (found : Option Cond) (time : ℕ) → wake_for now horizon cells found ≡ Some time → is_some found ≡ true
waits_if now horizon cells None time e = absurd (cc)
waits_if now horizon cells (Some condition) time e = refl

not_before : (now horizon : ℕ) (cells : List CellState) (found : Option Cond) (time : ℕ) → wake_for now horizon cells found ≡ Some time → now ≤ time
not_before now horizon cells None time e = absurd (cc)
not_before now horizon cells (Some condition) time e = go (wake_time cells condition (horizon - now)) e
  where
    go : (o : Option ℕ) → from_now now o ≡ Some time → now ≤ time
    go None e = absurd (cc)
    go (Some dt) e = let k : now + dt ≡ time = cc in omega (arith, k)

-- ---- the waits and the set of wake times

pub due_waits : (now horizon : ℕ) (cells : List CellState) (conditions : ℕ → Option Cond) (waits : Waits) (number : ℕ) → IsFound now horizon cells conditions waits → has_wake waits.times.wakes now number ≡ true →
    wake_for now horizon cells (conditions number) ≡ Some now
due_waits now horizon cells conditions waits number found due = ends_there now (wake_for now horizon cells (conditions number)) (sym (found_exact now horizon cells conditions waits found now number) ∙ due)

pub due_is_wait : (now horizon : ℕ) (cells : List CellState) (conditions : ℕ → Option Cond) (waits : Waits) (number : ℕ) → IsFound now horizon cells conditions waits → has_wake waits.times.wakes now number ≡ true →
    is_some (conditions number) ≡ true
due_is_wait now horizon cells conditions waits number found due = waits_if now horizon cells (conditions number) now (due_waits now horizon cells conditions waits number found due)

pub none_before_now : (now horizon : ℕ) (cells : List CellState) (conditions : ℕ → Option Cond) (waits : Waits) → IsFound now horizon cells conditions waits → IsNoneBefore now (has_wake waits.times.wakes)
none_before_now now horizon cells conditions waits found time number has =
    not_before now horizon cells (conditions number) time (ends_there time (wake_for now horizon cells (conditions number)) (sym (found_exact now horizon cells conditions waits found time number) ∙ has))

-- ---- a waiting task goes on

-- what is left to change is the same
abbrev pub WakesAlike : List CellState → Slots → Slots → Type 0
WakesAlike cells first slots = (number : ℕ) → option_map (slot_changed (woken cells)) (slot_at slots number) ≡ option_map (slot_changed (woken cells)) (slot_at first number)

module _ (law : HoldsWhereItWakesNow) (now horizon : ℕ) (cells : List CellState) (before : now < horizon) where
  holds_now : (condition : Cond) → wake_for now horizon cells (Some condition) ≡ Some now → holds_on cells condition ≡ true
  holds_now condition e = (law condition cells (horizon - now) (omega (arith, before))).1 (go (wake_time cells condition (horizon - now)) refl e)
    where
      go : (o : Option ℕ) → wake_time cells condition (horizon - now) ≡ o → from_now now o ≡ Some now → wake_time cells condition (horizon - now) ≡ Some 0
      go None f e = absurd (cc)
      go (Some dt) f e = let k : now + dt ≡ now = cc in let z : dt ≡ 0 = omega (arith, k) in f ∙ ap Some z

  wakes_now : (condition : Cond) → holds_on cells condition ≡ true → wake_for now horizon cells (Some condition) ≡ Some now
  wakes_now condition e =
      let k : now + 0 ≡ now = omega arith in
      ap (from_now now) ((law condition cells (horizon - now) (omega (arith, before))).0 e) ∙ ap Some k

  -- once it goes on, it is as it is woken
  woken_on : (phase : TaskPhase) → wake_for now horizon cells (condition_of_wait phase) ≡ Some now → woken_phase cells (phase_after_wait phase) ≡ woken_phase cells phase
  woken_on (waiting condition state) e = sym (rw (holds_now condition e) refl)
  woken_on (anchored to edge start state) e = absurd (cc)
  woken_on (ready state) e = absurd (cc)
  woken_on (delayed until state) e = absurd (cc)
  woken_on (calling child into state) e = absurd (cc)
  woken_on (over result) e = absurd (cc)

  -- where it does not wake now, it stays
  woken_stays : (phase : TaskPhase) → (wake_for now horizon cells (condition_of_wait phase) ≡ Some now → ⊥) → woken_phase cells phase ≡ phase
  woken_stays (waiting condition state) none = go (holds_on cells condition) refl
    where
      go : (b : Bool) → holds_on cells condition ≡ b → (if b then ready state else waiting condition state) ≡ waiting condition state
      go true e = absurd (none (wakes_now condition e))
      go false e = refl
  woken_stays (anchored to edge start state) none = refl
  woken_stays (ready state) none = refl
  woken_stays (delayed until state) none = refl
  woken_stays (calling child into state) none = refl
  woken_stays (over result) none = refl

  slot_on : (found : Option Slot) → wake_for now horizon cells (condition_of_slot found) ≡ Some now →
      option_map (slot_changed (woken cells)) (option_map (slot_changed after_wait) found) ≡ option_map (slot_changed (woken cells)) found
  slot_on None e = absurd (cc)
  slot_on (Some slot) e = ap (λ (phase : TaskPhase). Some (record slot { task = record slot.task { phase = phase } })) (woken_on slot.task.phase e)

  pub wakes_more : (first slots later : Slots) (waits : Waits) (number : ℕ) → IsFound now horizon cells (condition_at slots) waits → has_wake waits.times.wakes now number ≡ true →
      Becomes slots later number (option_map (slot_changed after_wait) (slot_at slots number)) → WakesAlike cells first slots → WakesAlike cells first later
  wakes_more first slots later waits number found due becomes alike n = by (same_or_not n number)
    where
      by : (n ≡ number) ⊎ (n ≢ number) → option_map (slot_changed (woken cells)) (slot_at later n) ≡ option_map (slot_changed (woken cells)) (slot_at first n)
      by (inl e) =
          ap (λ m. option_map (slot_changed (woken cells)) (slot_at later m)) e ∙ ap (option_map (slot_changed (woken cells))) becomes.is_there
          ∙ slot_on (slot_at slots number) (due_waits now horizon cells (condition_at slots) waits number found due)
          ∙ alike number ∙ ap (λ m. option_map (slot_changed (woken cells)) (slot_at first m)) (sym e)
      by (inr apart) = ap (option_map (slot_changed (woken cells))) (becomes.others n apart) ∙ alike n

  slot_stays : (found : Option Slot) → (wake_for now horizon cells (condition_of_slot found) ≡ Some now → ⊥) → option_map (slot_changed (woken cells)) found ≡ found
  slot_stays None none = refl
  slot_stays (Some slot) none = ap (λ (phase : TaskPhase). Some (record slot { task = record slot.task { phase = phase } })) (woken_stays slot.task.phase none)

  -- where none wakes now, all have gone on
  pub all_woken : (first slots : Slots) (waits : Waits) → IsFound now horizon cells (condition_at slots) waits → WakesAlike cells first slots → ((n : ℕ) → has_wake waits.times.wakes now n ≡ false) →
      AreChanged (woken cells) first slots
  all_woken first slots waits found alike none n = sym (slot_stays (slot_at slots n) out) ∙ alike n
    where
      ends_now : (o : Option ℕ) → o ≡ Some now → ends_at now o ≡ true
      ends_now o e = ap (ends_at now) e ∙ (let k : nat_eq now now ≡ true = grind (arith, nat_tests) in k)

      out : wake_for now horizon cells (condition_at slots n) ≡ Some now → ⊥
      out e = false≢true (sym (none n) ∙ found_exact now horizon cells (condition_at slots) waits found now n ∙ ends_now (wake_for now horizon cells (condition_at slots n)) e)

-- ---- what is kept of it

waits_no_more : (phase : TaskPhase) → condition_of_wait (phase_after_wait phase) ≡ None
waits_no_more (waiting condition state) = refl
waits_no_more (anchored to edge start state) = refl
waits_no_more (ready state) = refl
waits_no_more (delayed until state) = refl
waits_no_more (calling child into state) = refl
waits_no_more (over result) = refl

slot_waits_no_more : (found : Option Slot) → condition_of_slot (option_map (slot_changed after_wait) found) ≡ None
slot_waits_no_more None = refl
slot_waits_no_more (Some slot) = waits_no_more slot.task.phase

pub found_woken : (now horizon : ℕ) (cells : List CellState) (slots later : Slots) (old new : Waits) (number : ℕ) → EndsWait number old new →
    Becomes slots later number (option_map (slot_changed after_wait) (slot_at slots number)) → IsFound now horizon cells (condition_at slots) old → IsFound now horizon cells (condition_at later) new
found_woken now horizon cells slots later old new number ends becomes =
    found_ended now horizon cells (condition_at slots) (condition_at later) number old new ends (ap condition_of_slot becomes.is_there ∙ slot_waits_no_more (slot_at slots number))
    (λ n apart. ap condition_of_slot (becomes.others n apart))

-- ---- it is ready

-- what a waiting task is before and after
record Waking (found : Option Slot) : Type 0 where
  ready_ : is_ready_slot (option_map (slot_changed after_wait) found) ≡ true
  not_ready : is_ready_slot found ≡ false
  no_delay : delay_of_slot found ≡ None
  no_delay_then : delay_of_slot (option_map (slot_changed after_wait) found) ≡ None

waking_slot : (found : Option Slot) → is_some (condition_of_slot found) ≡ true → Waking found
waking_slot None e = absurd (false≢true e)
waking_slot (Some slot) e = by slot.task.phase refl e
  where
    by : (phase : TaskPhase) → slot.task.phase ≡ phase → is_some (condition_of_wait phase) ≡ true → Waking (Some slot)
    by (waiting condition state) f g = record {
      ready_ = ap (λ (p : TaskPhase). is_ready_phase (phase_after_wait p)) f;
      not_ready = ap is_ready_phase f;
      no_delay = ap delay_in f;
      no_delay_then = ap (λ (p : TaskPhase). delay_in (phase_after_wait p)) f;
    }
    by (anchored to edge start state) f g = absurd (false≢true g)
    by (ready state) f g = absurd (false≢true g)
    by (delayed until state) f g = absurd (false≢true g)
    by (calling child into state) f g = absurd (false≢true g)
    by (over result) f g = absurd (false≢true g)

module _ (old new : Slots) (number : ℕ) (becomes : Becomes old new number (option_map (slot_changed after_wait) (slot_at old number))) (waits : is_some (condition_at old number) ≡ true)
    (readies more : List ℕ) (delays : List DelayEnd) (pushed : more ≡ readies ++ number ∷ []) (listed : AreOnlyListed old readies delays) where
  abbrev found : Option Slot
  found = option_map (slot_changed after_wait) (slot_at old number)

  its : Waking (slot_at old number)
  its = waking_slot (slot_at old number) waits

  list_is : more ≡ listed_if (is_ready_slot found && not false) number readies
  list_is = pushed ∙ ap (λ b. listed_if (b && true) number readies) (sym its.ready_)

  exact : (t n : ℕ) → has_delay delays t n ≡ ends_at t (delay_of_slot (slot_at new n))
  exact t n = listed.all.delays_.exact t n ∙ by (same_or_not n number)
    where
      by : (n ≡ number) ⊎ (n ≢ number) → ends_at t (delay_of_slot (slot_at old n)) ≡ ends_at t (delay_of_slot (slot_at new n))
      by (inl e) =
          ap (ends_at t) (ap (λ m. delay_of_slot (slot_at old m)) e ∙ its.no_delay ∙ sym its.no_delay_then ∙ ap delay_of_slot (sym becomes.is_there) ∙ ap (λ m. delay_of_slot (slot_at new m)) (sym e))
      by (inr apart) = ap (λ o. ends_at t (delay_of_slot o)) (sym (becomes.others n apart))

  pub woken_listed : AreOnlyListed new more delays
  woken_listed = record {
    all = record {
      readies_ =
          subst (HaveAllReady new) (sym list_is)
          (readies_become old new number found becomes false readies (some_map (slot_changed after_wait) (slot_at old number)) listed.all.readies_ (λ e. absurd (false≢true e))
          (λ e among. false≢true (sym its.not_ready ∙ listed.alone number among)));
      delays_ = record { heap = listed.all.delays_.heap; exact = exact };
    };
    alone =
        subst (AreReadyAlone new) (sym list_is)
        (alone_become old new number found becomes false readies (some_map (slot_changed after_wait) (slot_at old number)) (λ e. absurd (false≢true (sym its.not_ready ∙ e))) listed.alone);
  }

-- ---- tasks that are live stay so

pub woken_mild : (cells : List CellState) → KeepsKinds (woken cells)
woken_mild cells = record {
  open_ = λ path task. open_ task.phase;
  begun_ = λ path task. refl;
  call = λ path task child into state e. call task.phase child into state e;
  anchor = λ path task to edge start state e. anchor task.phase to edge start state e;
}
  where
    open_ : (phase : TaskPhase) → is_open (woken_phase cells phase) ≡ is_open phase
    open_ (waiting condition state) = by (holds_on cells condition)
      where
        by : (b : Bool) → is_open (if b then ready state else waiting condition state) ≡ true
        by true = refl
        by false = refl
    open_ (anchored to edge start state) = refl
    open_ (ready state) = refl
    open_ (delayed until state) = refl
    open_ (calling child into state) = refl
    open_ (over result) = refl

    call : (phase : TaskPhase) (child : ℕ) (into : Option ℕ) (state : TaskState) → woken_phase cells phase ≡ calling child into state → phase ≡ calling child into state
    call (waiting condition other) child into state e = by (holds_on cells condition) e
      where
        by : (b : Bool) → (if b then ready other else waiting condition other) ≡ calling child into state → waiting condition other ≡ calling child into state
        by true f = absurd (cc)
        by false f = f
    call (anchored to edge start other) child into state e = e
    call (ready other) child into state e = e
    call (delayed until other) child into state e = e
    call (calling own slot other) child into state e = e
    call (over result) child into state e = e

    anchor : (phase : TaskPhase) (to : ℕ) (edge : Edge) (start : ℕ) (state : TaskState) → woken_phase cells phase ≡ anchored to edge start state → phase ≡ anchored to edge start state
    anchor (waiting condition other) to edge start state e = by (holds_on cells condition) e
      where
        by : (b : Bool) → (if b then ready other else waiting condition other) ≡ anchored to edge start state → waiting condition other ≡ anchored to edge start state
        by true f = absurd (cc)
        by false f = f
    anchor (anchored id at so_long other) to edge start state e = e
    anchor (ready other) to edge start state e = e
    anchor (delayed until other) to edge start state e = e
    anchor (calling own slot other) to edge start state e = e
    anchor (over result) to edge start state e = e
