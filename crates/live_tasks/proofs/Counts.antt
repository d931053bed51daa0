-- How many children are live, as one number comes to have another task or none.
use Rattle.std.proofs.Common.{◌≡◌, ◌≢◌, ℕ, zero, suc, ◌+◌, ◌≤◌, nat_eq, true, false, [], ◌∷◌, Option, Some, None, refl, sym, ap, ◌∙◌, arith}
use Rattle.std.proofs.lemmas.Bool.Decides.{nat_tests}
use Rattle.live_tasks.specs.declared.slots.Slot.{Slot}
use Rattle.live_tasks.specs.Slots.{Slots, slot_at, Becomes, under, child_in, live_children_of}

-- ---- the first and the rest, where there may be none

abbrev first : Slots → Option Slot
first [] = None
first (found ∷ rest) = found

abbrev others : Slots → Slots
others [] = []
others (found ∷ rest) = rest

at_first : (slots : Slots) → slot_at slots 0 ≡ first slots
at_first [] = refl
at_first (found ∷ rest) = refl

at_others : (slots : Slots) (number : ℕ) → slot_at (others slots) number ≡ slot_at slots (suc number)
at_others [] number = refl
at_others (found ∷ rest) number = refl

count_split : (parent : ℕ) (slots : Slots) → live_children_of parent slots ≡ child_in parent (first slots) + live_children_of parent (others slots)
count_split parent [] = refl
count_split parent (found ∷ rest) = refl

-- ---- the same tasks

pub none_count : (parent : ℕ) (slots : Slots) → ((number : ℕ) → child_in parent (slot_at slots number) ≡ 0) → live_children_of parent slots ≡ 0
none_count parent [] none = refl
none_count parent (found ∷ rest) none =
    let a : child_in parent found ≡ 0 = none 0 in
    let b : live_children_of parent rest ≡ 0 = none_count parent rest (λ n. none (suc n)) in
    omega (arith, a, b)

pub same_count : (parent : ℕ) (one two : Slots) → ((number : ℕ) → child_in parent (slot_at one number) ≡ child_in parent (slot_at two number)) → live_children_of parent one ≡ live_children_of parent two
same_count parent [] two same = sym (none_count parent two (λ n. sym (same n)))
same_count parent (found ∷ rest) two same =
    let a : child_in parent found ≡ child_in parent (first two) = same 0 ∙ ap (child_in parent) (at_first two) in
    let b : live_children_of parent rest ≡ live_children_of parent (others two) = same_count parent rest (others two) (λ n. same (suc n) ∙ ap (child_in parent) (sym (at_others two n))) in
    let c = count_split parent two in
    omega (arith, a, b, c)

-- ---- one number

zero_not : (n : ℕ) → zero ≢ suc n
zero_not n e = cc

suc_not : (n : ℕ) → suc n ≢ zero
suc_not n e = cc

pub count_becomes : (parent : ℕ) (number : ℕ) (old new : Slots) (found : Option Slot) → Becomes old new number found →
    live_children_of parent new + child_in parent (slot_at old number) ≡ live_children_of parent old + child_in parent found
count_becomes parent zero old new found is =
    let a : child_in parent (first new) ≡ child_in parent found = ap (child_in parent) (sym (at_first new) ∙ is.is_there) in
    let b : child_in parent (slot_at old 0) ≡ child_in parent (first old) = ap (child_in parent) (at_first old) in
    let c : live_children_of parent (others new) ≡ live_children_of parent (others old) =
    same_count parent (others new) (others old) (λ n. ap (child_in parent) (at_others new n ∙ is.others (suc n) (suc_not n) ∙ sym (at_others old n))) in
    let d = count_split parent old in
    let e = count_split parent new in
    omega (arith, a, b, c, d, e)
count_becomes parent (suc number) old new found is =
    let a : child_in parent (first new) ≡ child_in parent (first old) = ap (child_in parent) (sym (at_first new) ∙ is.others 0 (zero_not number) ∙ at_first old) in
    let b : child_in parent (slot_at (others old) number) ≡ child_in parent (slot_at old (suc number)) = ap (child_in parent) (at_others old number) in
    let c : live_children_of parent (others new) + child_in parent (slot_at (others old) number) ≡ live_children_of parent (others old) + child_in parent found =
    count_becomes parent number (others old) (others new) found (record {
      is_there = at_others new number ∙ is.is_there;
      others = λ n apart. at_others new n ∙ is.others (suc n) (λ e. apart (omega (arith, e))) ∙ sym (at_others old n);
    }) in
    let d = count_split parent old in
    let e = count_split parent new in
    omega (arith, a, b, c, d, e)

-- ---- one child at least

pub counts_itself : (parent : ℕ) → nat_eq parent parent ≡ true
counts_itself parent = grind (arith, nat_tests)

pub counts_other : (number parent : ℕ) → parent ≢ number → nat_eq parent number ≡ false
counts_other number parent apart = grind (arith, nat_tests)

pub under_itself : (number : ℕ) (o : Option ℕ) → o ≡ Some number → under number o ≡ 1
under_itself number None e = absurd (cc)
under_itself number (Some parent) e = let k : parent ≡ number = cc in rw (k, counts_itself number) refl

pub under_other : (number : ℕ) (o : Option ℕ) → (o ≡ Some number → ⊥) → under number o ≡ 0
under_other number None e = refl
under_other number (Some parent) e = let k : nat_eq parent number ≡ false = counts_other number parent (λ f. e (ap Some f)) in rw k refl

pub child_counts : (parent : ℕ) (slots : Slots) (number : ℕ) (slot : Slot) → slot_at slots number ≡ Some slot → slot.parent ≡ Some parent → 1 ≤ live_children_of parent slots
child_counts parent [] number slot at is = absurd (cc)
child_counts parent (found ∷ rest) zero slot at is =
    let a : child_in parent found ≡ 1 = ap (child_in parent) at ∙ under_itself parent slot.parent is in omega (arith, a)
child_counts parent (found ∷ rest) (suc number) slot at is =
    let a = child_counts parent rest number slot at is in omega (arith, a)
