-- The ends of delays are gathered, number by number.
use Rattle.std.proofs.Common.{◌≡◌, ◌≢◌, ◌⊎◌, inl, inr, ℕ, zero, suc, ◌+◌, ◌≤◌, nat_eq, nat_lt, Bool, true, false, ◌&&◌, ◌||◌, List, [], ◌∷◌, length, Option, None, refl, sym, ap, ◌∙◌, arith}
use Rattle.std.proofs.lemmas.Bool.Decides.{nat_tests}
use Rattle.live_tasks.specs.Listing.{DelayEnd, delay_of_slot, has_delay, ends_at, IsDelayHeap, AreDelays, HasDelayToo, IsNewDelay, StaysHeap}
use Rattle.live_tasks.specs.Slots.{Slots, slot_at}
use Rattle.live_tasks.proofs.Forests.{same_or_not}

pub past_end : (slots : Slots) (number : ℕ) → length slots ≤ number → slot_at slots number ≡ None
past_end [] number less = refl
past_end (found ∷ rest) zero less = absurd (omega (arith, less))
past_end (found ∷ rest) (suc number) less = past_end rest number (omega (arith, less))

-- the ends of the delays of all numbers below one
pub record AreEndsBelow (slots : Slots) (number : ℕ) (ends : List DelayEnd) : Type 0 where
  pub heap : IsDelayHeap ends
  pub exact : (t n : ℕ) → has_delay ends t n ≡ (nat_lt n number && ends_at t (delay_of_slot (slot_at slots n)))

pub none_gathered : (slots : Slots) (ends : List DelayEnd) → ((t n : ℕ) → has_delay ends t n ≡ false) → IsDelayHeap ends → AreEndsBelow slots 0 ends
none_gathered slots ends none heap = record { heap = heap; exact = λ t n. none t n ∙ sym (ap (λ b. b && ends_at t (delay_of_slot (slot_at slots n))) (below n)) }
  where
    below : (n : ℕ) → nat_lt n 0 ≡ false
    below n = grind (arith, nat_tests)

module _ (slots : Slots) (number : ℕ) (before after : List DelayEnd) (delay : Option ℕ) (is : delay ≡ delay_of_slot (slot_at slots number)) (so_far : AreEndsBelow slots number before)
    (more : HasDelayToo number delay before after) (stays : StaysHeap number delay before after) where
  new : IsNewDelay number delay before
  new t e = so_far.exact t number ∙ ap (λ b. b && ends_at t (delay_of_slot (slot_at slots number))) not_itself
    where
      not_itself : nat_lt number number ≡ false
      not_itself = grind (arith, nat_tests)

  here : (t n : ℕ) → n ≡ number → ((nat_lt n number && ends_at t (delay_of_slot (slot_at slots n))) || (nat_eq number n && ends_at t delay)) ≡ (nat_lt n (number + 1) && ends_at t (delay_of_slot (slot_at slots n)))
  here t n e =
      let lower : nat_lt n number ≡ false = grind (arith, nat_tests) in
      let same : nat_eq number n ≡ true = grind (arith, nat_tests) in
      let upper : nat_lt n (number + 1) ≡ true = grind (arith, nat_tests) in
      ap (λ b. (b && ends_at t (delay_of_slot (slot_at slots n))) || (nat_eq number n && ends_at t delay)) lower
      ∙ ap (λ b. b && ends_at t delay) same
      ∙ ap (ends_at t) (is ∙ ap (λ m. delay_of_slot (slot_at slots m)) (sym e))
      ∙ sym (ap (λ b. b && ends_at t (delay_of_slot (slot_at slots n))) upper)

  there : (t n : ℕ) → n ≢ number → ((nat_lt n number && ends_at t (delay_of_slot (slot_at slots n))) || (nat_eq number n && ends_at t delay)) ≡ (nat_lt n (number + 1) && ends_at t (delay_of_slot (slot_at slots n)))
  there t n apart =
      let same : nat_eq number n ≡ false = grind (arith, nat_tests) in
      let upper : nat_lt n (number + 1) ≡ nat_lt n number = by (nat_lt n number) refl in
      ap (λ b. (nat_lt n number && ends_at t (delay_of_slot (slot_at slots n))) || (b && ends_at t delay)) same
      ∙ none (nat_lt n number && ends_at t (delay_of_slot (slot_at slots n)))
      ∙ sym (ap (λ b. b && ends_at t (delay_of_slot (slot_at slots n))) upper)
    where
      none : (x : Bool) → (x || false) ≡ x
      none true = refl
      none false = refl

      by : (b : Bool) → nat_lt n number ≡ b → nat_lt n (number + 1) ≡ nat_lt n number
      by true e = let k : nat_lt n (number + 1) ≡ true = grind (arith, nat_tests) in k ∙ sym e
      by false e = let k : nat_lt n (number + 1) ≡ false = grind (arith, nat_tests) in k ∙ sym e

  pub one_gathered : AreEndsBelow slots (number + 1) after
  one_gathered = record {
    heap = stays new so_far.heap;
    exact = λ t n. more t n ∙ ap (λ b. b || (nat_eq number n && ends_at t delay)) (so_far.exact t n) ∙ by t n (same_or_not n number);
  }
    where
      by : (t n : ℕ) → (n ≡ number) ⊎ (n ≢ number) →
          ((nat_lt n number && ends_at t (delay_of_slot (slot_at slots n))) || (nat_eq number n && ends_at t delay)) ≡ (nat_lt n (number + 1) && ends_at t (delay_of_slot (slot_at slots n)))
      by t n (inl e) = here t n e
      by t n (inr apart) = there t n apart

pub all_gathered : (slots : Slots) (number : ℕ) (ends : List DelayEnd) → length slots ≤ number → AreEndsBelow slots number ends → AreDelays slots ends
all_gathered slots number ends long so_far = record { heap = so_far.heap; exact = λ t n. so_far.exact t n ∙ by t n (nat_lt n number) refl }
  where
    by : (t n : ℕ) (b : Bool) → nat_lt n number ≡ b → (nat_lt n number && ends_at t (delay_of_slot (slot_at slots n))) ≡ ends_at t (delay_of_slot (slot_at slots n))
    by t n true e = ap (λ b. b && ends_at t (delay_of_slot (slot_at slots n))) e
    by t n false e =
        let far : number ≤ n = grind (arith, nat_tests) in
        ap (λ b. b && ends_at t (delay_of_slot (slot_at slots n))) e ∙ sym (ap (λ found. ends_at t (delay_of_slot found)) (past_end slots n (omega (arith, long, far))))
