-- The lists of ready tasks and of delays, as one number comes to have another task or none.
use Rattle.std.proofs.Common.{◌≡◌, ◌≢◌, ◌⊎◌, inl, inr, ℕ, nat_eq, Bool, true, false, not, ◌&&◌, ◌||◌, List, [], ◌∷◌, ◌++◌, Option, Some, None, is_some, refl, sym, ap, ◌∙◌, subst, arith, if◌then◌else◌}
use Rattle.std.proofs.lemmas.Bool.{false≢true}
use Rattle.std.proofs.lemmas.Bool.Decides.{nat_tests}
use Rattle.std.specs.List.{filter}
use Rattle.live_tasks.specs.declared.slots.Slot.{Slot}
use Rattle.live_tasks.specs.Slots.{Slots, slot_at, Becomes}
use Rattle.live_tasks.specs.Endings.{IsNumberAmong}
use Rattle.live_tasks.specs.Listing.{is_ready_slot, delay_of_slot, is_newly_ready, listed_if, ready_among, HaveNoRepeats, HaveAllReady, AreReadyAlone, DelayEnd, has_delay, ends_at, newly_delayed, AreDelays, HasDelayToo, IsNewDelay, StaysHeap, AreTasksListed, AreOnlyListed}
use Rattle.live_tasks.proofs.Forests.{same_or_not}

-- ---- one number more

pub among_push : (numbers : List ℕ) (number other : ℕ) → IsNumberAmong other (numbers ++ number ∷ []) → IsNumberAmong other numbers ⊎ (other ≡ number)
among_push [] number other (inl e) = inr e
among_push [] number other (inr never) = absurd never
among_push (first ∷ rest) number other (inl e) = inl (inl e)
among_push (first ∷ rest) number other (inr among) = by (among_push rest number other among)
  where
    by : IsNumberAmong other rest ⊎ (other ≡ number) → IsNumberAmong other (first ∷ rest) ⊎ (other ≡ number)
    by (inl a) = inl (inr a)
    by (inr e) = inr e

pub push_old : (numbers : List ℕ) (number other : ℕ) → IsNumberAmong other numbers → IsNumberAmong other (numbers ++ number ∷ [])
push_old [] number other never = absurd never
push_old (first ∷ rest) number other (inl e) = inl e
push_old (first ∷ rest) number other (inr among) = inr (push_old rest number other among)

pub push_new : (numbers : List ℕ) (number : ℕ) → IsNumberAmong number (numbers ++ number ∷ [])
push_new [] number = inl refl
push_new (first ∷ rest) number = inr (push_new rest number)

pub once_push : (numbers : List ℕ) (number : ℕ) → HaveNoRepeats numbers → (IsNumberAmong number numbers → ⊥) → HaveNoRepeats (numbers ++ number ∷ [])
once_push [] number once apart = (λ never. never, tt)
once_push (first ∷ rest) number once apart = (not_first, once_push rest number once.1 (λ a. apart (inr a)))
  where
    not_first : IsNumberAmong first (rest ++ number ∷ []) → ⊥
    not_first among = by (among_push rest number first among)
      where
        by : IsNumberAmong first rest ⊎ (first ≡ number) → ⊥
        by (inl a) = once.0 a
        by (inr e) = apart (inl (sym e))

ready_some : (found : Option Slot) → is_ready_slot found ≡ true → is_some found ≡ true
ready_some None e = absurd (false≢true e)
ready_some (Some slot) e = refl

module _ (old new : Slots) (number : ℕ) (found : Option Slot) (becomes : Becomes old new number found) where
  -- ---- the ready tasks

  at_here : (n : ℕ) → n ≡ number → slot_at new n ≡ found
  at_here n e = ap (slot_at new) e ∙ becomes.is_there

  module _ (was : Bool) (readies : List ℕ) (some : is_some (slot_at old number) ≡ true → is_some found ≡ true) where
    module _ (have : HaveAllReady old readies) where
      there_old : (n : ℕ) → IsNumberAmong n readies → is_some (slot_at new n) ≡ true
      there_old n among = go (same_or_not n number)
        where
          go : (n ≡ number) ⊎ (n ≢ number) → is_some (slot_at new n) ≡ true
          go (inl e) = ap is_some (at_here n e) ∙ some (ap (λ m. is_some (slot_at old m)) (sym e) ∙ have.there n among)
          go (inr other) = ap is_some (becomes.others n other) ∙ have.there n among

      all_by : (numbers : List ℕ) → ((n : ℕ) → IsNumberAmong n readies → IsNumberAmong n numbers) → (is_ready_slot found ≡ true → IsNumberAmong number numbers) →
          (n : ℕ) → is_ready_slot (slot_at new n) ≡ true → IsNumberAmong n numbers
      all_by numbers keeps here n ready = go (same_or_not n number)
        where
          go : (n ≡ number) ⊎ (n ≢ number) → IsNumberAmong n numbers
          go (inl e) = subst (λ m. IsNumberAmong m numbers) (sym e) (here (ap is_ready_slot (sym (at_here n e)) ∙ ready))
          go (inr other) = keeps n (have.all n (ap is_ready_slot (sym (becomes.others n other)) ∙ ready))

      unchanged : (is_ready_slot found ≡ true → IsNumberAmong number readies) → HaveAllReady new readies
      unchanged here = record { there = there_old; all = all_by readies (λ n a. a) here; once = have.once }

      pushed : is_ready_slot found ≡ true → (IsNumberAmong number readies → ⊥) → HaveAllReady new (readies ++ number ∷ [])
      pushed ready out = record { there = there; all = all_by (readies ++ number ∷ []) (λ n a. push_old readies number n a) (λ e. push_new readies number); once = once_push readies number have.once out }
        where
          there : (n : ℕ) → IsNumberAmong n (readies ++ number ∷ []) → is_some (slot_at new n) ≡ true
          there n among = go (among_push readies number n among)
            where
              go : IsNumberAmong n readies ⊎ (n ≡ number) → is_some (slot_at new n) ≡ true
              go (inl a) = there_old n a
              go (inr e) = ap is_some (at_here n e) ∙ ready_some found ready

      pub readies_become : (was ≡ true → is_ready_slot (slot_at old number) ≡ true) → (was ≡ false → IsNumberAmong number readies → ⊥) →
          HaveAllReady new (listed_if (is_newly_ready was found) number readies)
      readies_become stood apart = by was (is_ready_slot found) refl refl
        where
          by : (w r : Bool) → was ≡ w → is_ready_slot found ≡ r → HaveAllReady new (listed_if (r && not w) number readies)
          by true true e f = unchanged (λ g. have.all number (stood e))
          by true false e f = unchanged (λ g. have.all number (stood e))
          by false true e f = pushed f (apart e)
          by false false e f = unchanged (λ g. absurd (false≢true (sym f ∙ g)))

    pub alone_become : (is_ready_slot (slot_at old number) ≡ true → is_ready_slot found ≡ true) → AreReadyAlone old readies → AreReadyAlone new (listed_if (is_newly_ready was found) number readies)
    alone_become stays alone = by was (is_ready_slot found) refl
      where
        old_ready : (n : ℕ) → IsNumberAmong n readies → is_ready_slot (slot_at new n) ≡ true
        old_ready n among = go (same_or_not n number)
          where
            go : (n ≡ number) ⊎ (n ≢ number) → is_ready_slot (slot_at new n) ≡ true
            go (inl e) = ap is_ready_slot (at_here n e) ∙ stays (ap (λ m. is_ready_slot (slot_at old m)) (sym e) ∙ alone n among)
            go (inr other) = ap is_ready_slot (becomes.others n other) ∙ alone n among

        new_ready : is_ready_slot found ≡ true → (n : ℕ) → IsNumberAmong n (readies ++ number ∷ []) → is_ready_slot (slot_at new n) ≡ true
        new_ready f n among = go (among_push readies number n among)
          where
            go : IsNumberAmong n readies ⊎ (n ≡ number) → is_ready_slot (slot_at new n) ≡ true
            go (inl a) = old_ready n a
            go (inr e) = ap is_ready_slot (at_here n e) ∙ f

        by : (w r : Bool) → is_ready_slot found ≡ r → AreReadyAlone new (listed_if (r && not w) number readies)
        by true true f = old_ready
        by true false f = old_ready
        by false true f = new_ready f
        by false false f = old_ready

  -- ---- the delays

  -- whether its delay stood there before
  module _ (was : Bool) (fresh : was ≡ false → delay_of_slot (slot_at old number) ≡ None) (same : was ≡ true → delay_of_slot (slot_at old number) ≡ delay_of_slot found) (delays after : List DelayEnd)
      (are : AreDelays old delays) where
    is_new : IsNewDelay number (newly_delayed was found) delays
    is_new t e = by was refl e
      where
        by : (w : Bool) → was ≡ w → ends_at t (newly_delayed w found) ≡ true → has_delay delays t number ≡ false
        by true f g = absurd (false≢true g)
        by false f g = are.exact t number ∙ ap (ends_at t) (fresh f)

    joined : (t : ℕ) → (ends_at t (delay_of_slot (slot_at old number)) || (true && ends_at t (newly_delayed was found))) ≡ ends_at t (delay_of_slot found)
    joined t = by was refl
      where
        none : (x : Bool) → (x || false) ≡ x
        none true = refl
        none false = refl

        by : (w : Bool) → was ≡ w → (ends_at t (delay_of_slot (slot_at old number)) || (true && ends_at t (newly_delayed w found))) ≡ ends_at t (delay_of_slot found)
        by true f = none (ends_at t (delay_of_slot (slot_at old number))) ∙ ap (ends_at t) (same f)
        by false f = ap (λ d. ends_at t d || ends_at t (delay_of_slot found)) (fresh f)

    pub delays_become : HasDelayToo number (newly_delayed was found) delays after → StaysHeap number (newly_delayed was found) delays after → AreDelays new after
    delays_become more heap = record { heap = heap is_new are.heap; exact = exact }
      where
        exact : (t n : ℕ) → has_delay after t n ≡ ends_at t (delay_of_slot (slot_at new n))
        exact t n = more t n ∙ ap (λ b. b || (nat_eq number n && ends_at t (newly_delayed was found))) (are.exact t n) ∙ by (same_or_not n number)
          where
            none : (x y : Bool) → (x || (false && y)) ≡ x
            none true y = refl
            none false y = refl

            by : (n ≡ number) ⊎ (n ≢ number) →
                (ends_at t (delay_of_slot (slot_at old n)) || (nat_eq number n && ends_at t (newly_delayed was found))) ≡ ends_at t (delay_of_slot (slot_at new n))
            by (inl e) =
                let k : nat_eq number n ≡ true = grind (arith, nat_tests) in
                ap (λ b. ends_at t (delay_of_slot (slot_at old n)) || (b && ends_at t (newly_delayed was found))) k
                ∙ ap (λ m. ends_at t (delay_of_slot (slot_at old m)) || (true && ends_at t (newly_delayed was found))) e
                ∙ joined t
                ∙ sym (ap (λ m. ends_at t (delay_of_slot (slot_at new m))) e ∙ ap (λ o. ends_at t (delay_of_slot o)) becomes.is_there)
            by (inr other) =
                let k : nat_eq number n ≡ false = grind (arith, nat_tests) in
                ap (λ b. ends_at t (delay_of_slot (slot_at old n)) || (b && ends_at t (newly_delayed was found))) k
                ∙ none (ends_at t (delay_of_slot (slot_at old n))) (ends_at t (newly_delayed was found))
                ∙ ap (λ o. ends_at t (delay_of_slot o)) (sym (becomes.others n other))

-- ---- a task came to stand at a number, and was listed

module _ (old new last : Slots) (number : ℕ) (found : Option Slot) (was was_delayed : Bool) (readies more_readies : List ℕ) (delays more_delays : List DelayEnd) (becomes : Becomes old new number found)
    (some : is_some (slot_at old number) ≡ true → is_some found ≡ true) (fresh : was_delayed ≡ false → delay_of_slot (slot_at old number) ≡ None)
    (held : was_delayed ≡ true → delay_of_slot (slot_at old number) ≡ delay_of_slot found) (same : last ≡ new)
    (readies_are : more_readies ≡ listed_if (is_newly_ready was (slot_at new number)) number readies)
    (delays_are : HasDelayToo number (newly_delayed was_delayed (slot_at new number)) delays more_delays) (heap : StaysHeap number (newly_delayed was_delayed (slot_at new number)) delays more_delays) where
  lists : more_readies ≡ listed_if (is_newly_ready was found) number readies
  lists = readies_are ∙ ap (λ o. listed_if (is_newly_ready was o) number readies) becomes.is_there

  pub all_listed : (was ≡ true → is_ready_slot (slot_at old number) ≡ true) → (was ≡ false → IsNumberAmong number readies → ⊥) → AreTasksListed old readies delays → AreTasksListed last more_readies more_delays
  all_listed stood apart are =
      subst (λ s. AreTasksListed s more_readies more_delays) (sym same) (record {
        readies_ = subst (HaveAllReady new) (sym lists) (readies_become old new number found becomes was readies some are.readies_ stood apart);
        delays_ =
            delays_become old new number found becomes was_delayed fresh held delays more_delays are.delays_
            (subst (λ o. HasDelayToo number (newly_delayed was_delayed o) delays more_delays) becomes.is_there delays_are)
            (subst (λ o. StaysHeap number (newly_delayed was_delayed o) delays more_delays) becomes.is_there heap);
      })

  pub alone_listed : was ≡ is_ready_slot (slot_at old number) → (is_ready_slot (slot_at old number) ≡ true → is_ready_slot found ≡ true) → AreOnlyListed old readies delays →
      AreOnlyListed last more_readies more_delays
  alone_listed was_is stays are = record {
    all = all_listed (λ e. sym was_is ∙ e) (λ e among. false≢true (sym (sym was_is ∙ e) ∙ are.alone number among)) are.all;
    alone = subst (λ s. AreReadyAlone s more_readies) (sym same) (subst (AreReadyAlone new) (sym lists) (alone_become old new number found becomes was readies some stays are.alone));
  }

-- ---- the ready ones of some numbers

pub among_is : (slots : Slots) (numbers : List ℕ) → ready_among slots numbers ≡ filter (λ number. is_ready_slot (slot_at slots number)) numbers
among_is slots [] = refl
among_is slots (number ∷ rest) = ap (λ among. if is_ready_slot (slot_at slots number) then number ∷ among else among) (among_is slots rest)

pub append_none : (numbers : List ℕ) → numbers ++ [] ≡ numbers
append_none [] = refl
append_none (first ∷ rest) = ap (λ all. first ∷ all) (append_none rest)

-- a number among these is among the others, and has a ready task
pub among_ready : (slots : Slots) (numbers : List ℕ) (number : ℕ) → IsNumberAmong number (ready_among slots numbers) → IsNumberAmong number numbers × (is_ready_slot (slot_at slots number) ≡ true)
among_ready slots [] number never = absurd never
among_ready slots (first ∷ rest) number among = by (is_ready_slot (slot_at slots first)) refl (among_ready slots rest number) among
  where
    behind : IsNumberAmong number rest × (is_ready_slot (slot_at slots number) ≡ true) → IsNumberAmong number (first ∷ rest) × (is_ready_slot (slot_at slots number) ≡ true)
    behind found = (inr found.0, found.1)

    by : (b : Bool) → is_ready_slot (slot_at slots first) ≡ b → (IsNumberAmong number (ready_among slots rest) → IsNumberAmong number rest × (is_ready_slot (slot_at slots number) ≡ true)) →
        IsNumberAmong number (if b then first ∷ ready_among slots rest else ready_among slots rest) → IsNumberAmong number (first ∷ rest) × (is_ready_slot (slot_at slots number) ≡ true)
    by true e further (inl same) = (inl same, ap (λ n. is_ready_slot (slot_at slots n)) same ∙ e)
    by true e further (inr a) = behind (further a)
    by false e further a = behind (further a)

pub ready_stays : (slots : Slots) (numbers : List ℕ) (number : ℕ) → IsNumberAmong number numbers → is_ready_slot (slot_at slots number) ≡ true → IsNumberAmong number (ready_among slots numbers)
ready_stays slots [] number never ready = absurd never
ready_stays slots (first ∷ rest) number among ready = by (is_ready_slot (slot_at slots first)) refl (λ a. ready_stays slots rest number a ready) among
  where
    by : (b : Bool) → is_ready_slot (slot_at slots first) ≡ b → (IsNumberAmong number rest → IsNumberAmong number (ready_among slots rest)) → IsNumberAmong number (first ∷ rest) →
        IsNumberAmong number (if b then first ∷ ready_among slots rest else ready_among slots rest)
    by true e further (inl same) = inl same
    by true e further (inr a) = inr (further a)
    by false e further (inl same) = absurd (false≢true (sym e ∙ ap (λ n. is_ready_slot (slot_at slots n)) (sym same) ∙ ready))
    by false e further (inr a) = further a

once_ready : (slots : Slots) (numbers : List ℕ) → HaveNoRepeats numbers → HaveNoRepeats (ready_among slots numbers)
once_ready slots [] once = tt
once_ready slots (first ∷ rest) once = by (is_ready_slot (slot_at slots first)) (once_ready slots rest once.1)
  where
    by : (b : Bool) → HaveNoRepeats (ready_among slots rest) → HaveNoRepeats (if b then first ∷ ready_among slots rest else ready_among slots rest)
    by true further = ((λ a. once.0 (among_ready slots rest first a).0), further)
    by false further = further

pub relisted : (slots : Slots) (readies : List ℕ) (delays : List DelayEnd) → AreTasksListed slots readies delays → AreOnlyListed slots (ready_among slots readies) delays
relisted slots readies delays are = record {
  all = record {
    readies_ = record {
      there = λ n a. are.readies_.there n (among_ready slots readies n a).0;
      all = λ n ready. ready_stays slots readies n (are.readies_.all n ready) ready;
      once = once_ready slots readies are.readies_.once;
    };
    delays_ = are.delays_;
  };
  alone = λ n a. (among_ready slots readies n a).1;
}
