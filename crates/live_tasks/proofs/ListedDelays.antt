-- Delays that end.
use Rattle.std.proofs.Common.{◌≡◌, ◌≢◌, ◌⊎◌, inl, inr, ℕ, nat_eq, Bool, true, false, not, ◌&&◌, List, Option, Some, None, option_map, refl, sym, ap, ◌∙◌, subst, arith, if◌then◌else◌}
use Rattle.std.proofs.lemmas.Bool.{false≢true}
use Rattle.std.proofs.lemmas.Bool.Decides.{nat_tests}
use Rattle.run_data.specs.Tasks.{TaskPhase, anchored, ready, delayed, waiting, calling, over, rested, rested_phase}
use Rattle.run_data.specs.laws.NextTimes.{delay_in}
use Rattle.run_data.specs.laws.ReadyTasks.{is_ready_phase}
use Rattle.live_tasks.specs.declared.slots.Slot.{Slot}
use Rattle.live_tasks.specs.Slots.{Slots, slot_at, Becomes}
use Rattle.live_tasks.specs.Changes.{slot_changed, AreChanged}
use Rattle.live_tasks.specs.LeastTimes.{IsNoneBefore}
use Rattle.live_tasks.specs.Listing.{is_ready_slot, delay_of_slot, listed_if, HaveAllReady, AreReadyAlone, DelayEnd, has_delay, ends_at, IsDelayHeap, AreDelays, HasDelayNoMore, IsFirstEnd, AreOnlyListed}
use Rattle.live_tasks.proofs.DelayHeaps.{first_there}
use Rattle.live_tasks.proofs.Forests.{same_or_not}
use Rattle.live_tasks.proofs.ListedNumbers.{readies_become, alone_become}
use Rattle.live_tasks.proofs.ListedChanges.{some_map}

ends_there : (time : ℕ) (delay : Option ℕ) → ends_at time delay ≡ true → delay ≡ Some time
ends_there time None e = absurd (false≢true e)
ends_there time (Some other) e = let k : other ≡ time = grind (arith, nat_tests) in ap Some k

-- ---- a delayed task at its time

due_rests : (now : ℕ) (phase : TaskPhase) → delay_in phase ≡ Some now → (is_ready_phase (rested_phase now phase) ≡ true) × (delay_in (rested_phase now phase) ≡ None) × (is_ready_phase phase ≡ false)
due_rests now (delayed until state) e = by (nat_eq until now) refl
  where
    k : until ≡ now
    k = let f : Some until ≡ Some now = e in cc

    by : (b : Bool) → nat_eq until now ≡ b → (is_ready_phase (if b then ready state else delayed until state) ≡ true) × (delay_in (if b then ready state else delayed until state) ≡ None) × (is_ready_phase (delayed until state) ≡ false)
    by true f = (refl, refl, refl)
    by false f = absurd (let g = k in grind (arith, nat_tests))
due_rests now (anchored to edge start state) e = absurd (cc)
due_rests now (ready state) e = absurd (cc)
due_rests now (waiting condition state) e = absurd (cc)
due_rests now (calling child into state) e = absurd (cc)
due_rests now (over result) e = absurd (cc)

slot_rests : (now : ℕ) (found : Option Slot) → delay_of_slot found ≡ Some now →
    (is_ready_slot (option_map (slot_changed (rested now)) found) ≡ true) × (delay_of_slot (option_map (slot_changed (rested now)) found) ≡ None) × (is_ready_slot found ≡ false)
slot_rests now None e = absurd (cc)
slot_rests now (Some slot) e = due_rests now slot.task.phase e

module _ (old new : Slots) (number now : ℕ) (becomes : Becomes old new number (option_map (slot_changed (rested now)) (slot_at old number))) (delays after : List DelayEnd) (readies more : List ℕ)
    (due : IsFirstEnd now number delays) (less : HasDelayNoMore number now delays after) (heap : IsDelayHeap after)
    (listed : AreOnlyListed old readies delays) (pushed : more ≡ listed_if true number readies) where
  abbrev found : Option Slot
  found = option_map (slot_changed (rested now)) (slot_at old number)

  delay_is : delay_of_slot (slot_at old number) ≡ Some now
  delay_is = ends_there now (delay_of_slot (slot_at old number)) (sym (listed.all.delays_.exact now number) ∙ first_there delays _ due)

  its : (is_ready_slot found ≡ true) × (delay_of_slot found ≡ None) × (is_ready_slot (slot_at old number) ≡ false)
  its = slot_rests now (slot_at old number) delay_is

  exact : (t n : ℕ) → has_delay after t n ≡ ends_at t (delay_of_slot (slot_at new n))
  exact t n = less t n ∙ ap (λ b. b && not (nat_eq number n && nat_eq now t)) (listed.all.delays_.exact t n) ∙ by (same_or_not n number)
    where
      out : (x : Bool) → (x && not (true && x)) ≡ false
      out true = refl
      out false = refl

      none : (x y : Bool) → (x && not (false && y)) ≡ x
      none true y = refl
      none false y = refl

      by : (n ≡ number) ⊎ (n ≢ number) → (ends_at t (delay_of_slot (slot_at old n)) && not (nat_eq number n && nat_eq now t)) ≡ ends_at t (delay_of_slot (slot_at new n))
      by (inl e) =
          let k : nat_eq number n ≡ true = grind (arith, nat_tests) in
          ap (λ b. ends_at t (delay_of_slot (slot_at old n)) && not (b && nat_eq now t)) k
          ∙ ap (λ d. ends_at t d && not (true && nat_eq now t)) (ap (λ m. delay_of_slot (slot_at old m)) e ∙ delay_is)
          ∙ out (nat_eq now t)
          ∙ sym (ap (ends_at t) (ap (λ m. delay_of_slot (slot_at new m)) e ∙ ap delay_of_slot becomes.is_there ∙ its.1))
      by (inr other) =
          let k : nat_eq number n ≡ false = grind (arith, nat_tests) in
          ap (λ b. ends_at t (delay_of_slot (slot_at old n)) && not (b && nat_eq now t)) k
          ∙ none (ends_at t (delay_of_slot (slot_at old n))) (nat_eq now t)
          ∙ ap (λ o. ends_at t (delay_of_slot o)) (sym (becomes.others n other))

  list_is : more ≡ listed_if (is_ready_slot found && not false) number readies
  list_is = pushed ∙ ap (λ b. listed_if (b && true) number readies) (sym its.0)

  pub resumed_listed : AreOnlyListed new more after
  resumed_listed = record {
    all = record {
      readies_ =
          subst (HaveAllReady new) (sym list_is)
          (readies_become old new number found becomes false readies (some_map (slot_changed (rested now)) (slot_at old number)) listed.all.readies_ (λ e. absurd (false≢true e))
          (λ e among. false≢true (sym its.2 ∙ listed.alone number among)));
      delays_ = record { heap = heap; exact = exact };
    };
    alone =
        subst (AreReadyAlone new) (sym list_is)
        (alone_become old new number found becomes false readies (some_map (slot_changed (rested now)) (slot_at old number)) (λ e. absurd (false≢true (sym its.2 ∙ e))) listed.alone);
  }

-- ---- all of them, one after another

-- what is left to change is the same
abbrev pub RestsAlike : ℕ → Slots → Slots → Type 0
RestsAlike now first slots = (number : ℕ) → option_map (slot_changed (rested now)) (slot_at slots number) ≡ option_map (slot_changed (rested now)) (slot_at first number)

rested_twice : (now : ℕ) (phase : TaskPhase) → rested_phase now (rested_phase now phase) ≡ rested_phase now phase
rested_twice now (delayed until state) = by (nat_eq until now) refl
  where
    by : (b : Bool) → nat_eq until now ≡ b → rested_phase now (if b then ready state else delayed until state) ≡ (if b then ready state else delayed until state)
    by true e = refl
    by false e = rw e refl
rested_twice now (anchored to edge start state) = refl
rested_twice now (ready state) = refl
rested_twice now (waiting condition state) = refl
rested_twice now (calling child into state) = refl
rested_twice now (over result) = refl

slot_twice : (now : ℕ) (found : Option Slot) → option_map (slot_changed (rested now)) (option_map (slot_changed (rested now)) found) ≡ option_map (slot_changed (rested now)) found
slot_twice now None = refl
slot_twice now (Some slot) = ap (λ (phase : TaskPhase). Some (record slot { task = record slot.task { phase = phase } })) (rested_twice now slot.task.phase)

pub rests_more : (now number : ℕ) (first slots later : Slots) → RestsAlike now first slots → Becomes slots later number (option_map (slot_changed (rested now)) (slot_at slots number)) → RestsAlike now first later
rests_more now number first slots later alike becomes n = by (same_or_not n number)
  where
    by : (n ≡ number) ⊎ (n ≢ number) → option_map (slot_changed (rested now)) (slot_at later n) ≡ option_map (slot_changed (rested now)) (slot_at first n)
    by (inl e) =
        ap (λ m. option_map (slot_changed (rested now)) (slot_at later m)) e ∙ ap (option_map (slot_changed (rested now))) becomes.is_there
        ∙ slot_twice now (slot_at slots number) ∙ alike number ∙ ap (λ m. option_map (slot_changed (rested now)) (slot_at first m)) (sym e)
    by (inr other) = ap (option_map (slot_changed (rested now))) (becomes.others n other) ∙ alike n

stays_delayed : (now : ℕ) (phase : TaskPhase) → ends_at now (delay_in phase) ≡ false → rested_phase now phase ≡ phase
stays_delayed now (delayed until state) e = rw e refl
stays_delayed now (anchored to edge start state) e = refl
stays_delayed now (ready state) e = refl
stays_delayed now (waiting condition state) e = refl
stays_delayed now (calling child into state) e = refl
stays_delayed now (over result) e = refl

slot_stays : (now : ℕ) (found : Option Slot) → ends_at now (delay_of_slot found) ≡ false → option_map (slot_changed (rested now)) found ≡ found
slot_stays now None e = refl
slot_stays now (Some slot) e = ap (λ (phase : TaskPhase). Some (record slot { task = record slot.task { phase = phase } })) (stays_delayed now slot.task.phase e)

-- where no delay ends now, all have gone on
pub all_rested : (now : ℕ) (first slots : Slots) (delays : List DelayEnd) → RestsAlike now first slots → AreDelays slots delays → ((number : ℕ) → has_delay delays now number ≡ false) →
    AreChanged (rested now) first slots
all_rested now first slots delays alike are none number = sym (slot_stays now (slot_at slots number) (sym (are.exact now number) ∙ none number)) ∙ alike number

-- none ends earlier once one has ended
pub none_before_less : (now number : ℕ) (before after : List DelayEnd) → IsNoneBefore now (has_delay before) → HasDelayNoMore number now before after → IsNoneBefore now (has_delay after)
none_before_less now number before after none less t n e = none t n (by (has_delay before t n) refl)
  where
    by : (b : Bool) → has_delay before t n ≡ b → has_delay before t n ≡ true
    by true f = f
    by false f = absurd (false≢true (sym (less t n ∙ ap (λ b. b && not (nat_eq number n && nat_eq now t)) f) ∙ e))
