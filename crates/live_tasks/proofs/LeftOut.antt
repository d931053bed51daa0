-- The tasks of the directives that differ are left out: what stays of the lists and of what is kept of waiting tasks.
use Rattle.std.proofs.Common.{◌≡◌, ◌≢◌, ◌⊎◌, inl, inr, ℕ, ◌+◌, ◌≤◌, nat_lt, Bool, true, false, List, length, Option, Some, None, is_some, refl, sym, ap, ◌∙◌, arith, if◌then◌else◌}
use Rattle.std.proofs.lemmas.Bool.{false≢true}
use Rattle.std.proofs.lemmas.Bool.Decides.{nat_tests}
use Rattle.live_tasks.specs.declared.slots.Slot.{Slot}
use Rattle.live_tasks.specs.Conditions.{condition_of_slot, WaitAlike}
use Rattle.live_tasks.specs.Endings.{IsNumberAmong}
use Rattle.live_tasks.specs.LeftOut.{is_slot_of, common_slot, AreCommon, AreIdle}
use Rattle.live_tasks.specs.Listing.{DelayEnd, is_ready_slot, AreDelays, AreOnlyListed}
use Rattle.live_tasks.specs.Slots.{Slots, slot_at, Becomes}
use Rattle.live_tasks.proofs.Forests.{same_or_not}
use Rattle.live_tasks.proofs.GatheredDelays.{past_end}

-- ---- number by number

-- those of the numbers below one are left out
abbrev pub LeftTo : (ℕ → Bool) → ℕ → Slots → Slots → Type 0
LeftTo differs number first slots = (n : ℕ) → slot_at slots n ≡ (if nat_lt n number then common_slot differs (slot_at first n) else slot_at first n)

pub none_left_out : (differs : ℕ → Bool) (first : Slots) → LeftTo differs 0 first first
none_left_out differs first n =
    let k : nat_lt n 0 ≡ false = grind (arith, nat_tests) in sym (ap (λ b. if b then common_slot differs (slot_at first n) else slot_at first n) k)

pub one_left_out : (differs : ℕ → Bool) (number : ℕ) (first slots next : Slots) → LeftTo differs number first slots → Becomes slots next number (common_slot differs (slot_at slots number)) →
    LeftTo differs (number + 1) first next
one_left_out differs number first slots next so_far becomes n = by (same_or_not n number)
  where
    by : (n ≡ number) ⊎ (n ≢ number) → slot_at next n ≡ (if nat_lt n (number + 1) then common_slot differs (slot_at first n) else slot_at first n)
    by (inl e) =
        let lower : nat_lt number number ≡ false = grind (arith, nat_tests) in
        let upper : nat_lt n (number + 1) ≡ true = grind (arith, nat_tests) in
        ap (slot_at next) e ∙ becomes.is_there
        ∙ ap (common_slot differs) (so_far number ∙ ap (λ b. if b then common_slot differs (slot_at first number) else slot_at first number) lower)
        ∙ ap (λ m. common_slot differs (slot_at first m)) (sym e)
        ∙ sym (ap (λ b. if b then common_slot differs (slot_at first n) else slot_at first n) upper)
    by (inr apart) =
        becomes.others n apart ∙ so_far n ∙ ap (λ b. if b then common_slot differs (slot_at first n) else slot_at first n) (sym (go (nat_lt n number) refl))
      where
        go : (b : Bool) → nat_lt n number ≡ b → nat_lt n (number + 1) ≡ nat_lt n number
        go true e = let k : nat_lt n (number + 1) ≡ true = grind (arith, nat_tests) in k ∙ sym e
        go false e = let k : nat_lt n (number + 1) ≡ false = grind (arith, nat_tests) in k ∙ sym e

pub all_left_out : (differs : ℕ → Bool) (number : ℕ) (first slots : Slots) → length first ≤ number → LeftTo differs number first slots → AreCommon differs first slots
all_left_out differs number first slots long so_far n = so_far n ∙ by (nat_lt n number) refl
  where
    by : (b : Bool) → nat_lt n number ≡ b → (if nat_lt n number then common_slot differs (slot_at first n) else slot_at first n) ≡ common_slot differs (slot_at first n)
    by true e = ap (λ b. if b then common_slot differs (slot_at first n) else slot_at first n) e
    by false e =
        let far : number ≤ n = grind (arith, nat_tests) in
        let none : slot_at first n ≡ None = past_end first n (omega (arith, long, far)) in
        ap (λ b. if b then common_slot differs (slot_at first n) else slot_at first n) e ∙ none ∙ sym (ap (common_slot differs) none)

-- ---- what stays

module _ (differs : ℕ → Bool) (old new : Slots) (are : AreCommon differs old new) where
  pub kept : (n : ℕ) → is_slot_of differs (slot_at old n) ≡ false → slot_at new n ≡ slot_at old n
  kept n e = are n ∙ ap (λ b. if b then None else slot_at old n) e

  pub gone : (n : ℕ) → is_slot_of differs (slot_at old n) ≡ true → slot_at new n ≡ None
  gone n e = are n ∙ ap (λ b. if b then None else slot_at old n) e

  module _ (idle : AreIdle differs old) where
    ready_kept : (n : ℕ) → is_ready_slot (slot_at old n) ≡ true → slot_at new n ≡ slot_at old n
    ready_kept n ready = by (is_slot_of differs (slot_at old n)) refl
      where
        by : (b : Bool) → is_slot_of differs (slot_at old n) ≡ b → slot_at new n ≡ slot_at old n
        by true e = absurd (false≢true (sym (idle n e).0 ∙ ready))
        by false e = kept n e

    ready_before : (n : ℕ) → is_ready_slot (slot_at new n) ≡ true → is_ready_slot (slot_at old n) ≡ true
    ready_before n ready = by (is_slot_of differs (slot_at old n)) refl
      where
        by : (b : Bool) → is_slot_of differs (slot_at old n) ≡ b → is_ready_slot (slot_at old n) ≡ true
        by true e = absurd (false≢true (sym (ap is_ready_slot (gone n e)) ∙ ready))
        by false e = ap is_ready_slot (sym (kept n e)) ∙ ready

    still_some : (found : Option Slot) → is_ready_slot found ≡ true → is_some found ≡ true
    still_some None e = absurd (false≢true e)
    still_some (Some slot) e = refl

    pub left_listed : (readies : List ℕ) (ends after : List DelayEnd) → AreDelays new after → AreOnlyListed old readies ends → AreOnlyListed new readies after
    left_listed readies ends after delays listed = record {
      all = record {
        readies_ = record {
          there = λ n among. still_some (slot_at new n) (alone n among);
          all = λ n ready. listed.all.readies_.all n (ready_before n ready);
          once = listed.all.readies_.once;
        };
        delays_ = delays;
      };
      alone = alone;
    }
      where
        alone : (n : ℕ) → IsNumberAmong n readies → is_ready_slot (slot_at new n) ≡ true
        alone n among = let ready = listed.alone n among in ap is_ready_slot (ready_kept n ready) ∙ ready

    pub left_alike : WaitAlike old new
    left_alike n = by (is_slot_of differs (slot_at old n)) refl
      where
        by : (b : Bool) → is_slot_of differs (slot_at old n) ≡ b → condition_of_slot (slot_at new n) ≡ condition_of_slot (slot_at old n)
        by true e = ap condition_of_slot (gone n e) ∙ sym (idle n e).1
        by false e = ap condition_of_slot (kept n e)
