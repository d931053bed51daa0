-- A comparison of two numbers goes by the sign of their difference.
use Rattle.std.proofs.Common.{◌≡◌, ℕ, zero, suc, ◌*◌, ◌/◌, ◌<◌, ◌≤◌, ℤ, pos, negsuc, ◌+ℤ◌, ◌-ℤ◌, ◌*ℤ◌, ◌<ℤ◌, Bool, true, false, not, refl, ap, arith, int_lt, int_le}
use Rattle.std.specs.Prelude.{◌-◌}
use Rattle.std.proofs.lemmas.Int.{ints}
use Rattle.std.proofs.Math.Nat.{div-mul-le_self, mul_comm}
use Rattle.std.proofs.Math.IntN.{*ℤ-zero, zero-*ℤ, pos-*ℤ-pos, negsuc-*ℤ-pos}
use Rattle.std.proofs.lemmas.Nat.{mul-le}
use Rattle.std.specs.Ordering.{int_eq}
use Rattle.aerie_base.specs.expressions.Arithmetic.{compared}
use Rattle.aerie_base.specs.declared.expressions.Comparison.{Comparison}
use Rattle.aerie_base.specs.declared.expressions.Comparison.TheVariants as by
use Rattle.wait_solver.specs.Changes.{until_reached, until_change}
use Rattle.wait_solver.specs.Outlooks.{IsBefore}

pub data Sign : Type 0 where
  below : Sign
  at : Sign
  above : Sign

abbrev pub sign_of : ℤ → Sign
sign_of (pos zero) = at
sign_of (pos (suc n)) = above
sign_of (negsuc n) = below

pub is_above : (number : ℤ) → pos 0 <ℤ number → sign_of number ≡ above
is_above (pos zero) h = absurd (omega (arith, ints))
is_above (pos (suc n)) h = refl
is_above (negsuc n) h = absurd (omega (arith, ints))

pub is_below : (number : ℤ) → number <ℤ pos 0 → sign_of number ≡ below
is_below (pos zero) h = absurd (omega (arith, ints))
is_below (pos (suc n)) h = absurd (omega (arith, ints))
is_below (negsuc n) h = refl

-- what a comparison answers, by the sign of the left number less the right one
abbrev pub answer : Comparison → Sign → Bool
answer by.Equal at = true
answer by.Equal _ = false
answer by.Unequal at = false
answer by.Unequal _ = true
answer by.Less below = true
answer by.Less _ = false
answer by.AtMost above = false
answer by.AtMost _ = true
answer by.More above = true
answer by.More _ = false
answer by.AtLeast below = false
answer by.AtLeast _ = true

less : (a b : ℤ) → a <ℤ b → int_lt a b ≡ true
less a b h = grind (arith, ints)

not_less : (a b : ℤ) → a <ℤ b → int_lt b a ≡ false
not_less a b h = grind (arith, ints)

most : (a b : ℤ) → a <ℤ b → int_le a b ≡ true
most a b h = grind (arith, ints)

not_most : (a b : ℤ) → a <ℤ b → int_le b a ≡ false
not_most a b h = grind (arith, ints)

not_less_itself : (a : ℤ) → int_lt a a ≡ false
not_less_itself a = grind (arith, ints)

apart_below : (a b : ℤ) → a <ℤ b → int_eq a b ≡ false
apart_below a b h = rw (less a b h) refl

apart_above : (a b : ℤ) → b <ℤ a → int_eq a b ≡ false
apart_above a b h = rw (not_less b a h, less b a h) refl

itself : (a : ℤ) → int_eq a a ≡ true
itself a = rw (not_less_itself a) refl

most_itself : (a : ℤ) → int_le a a ≡ true
most_itself a = grind (arith, ints)

answers_below : (how : Comparison) (a b : ℤ) → a <ℤ b → compared how a b ≡ answer how below
answers_below by.Equal a b h = apart_below a b h
answers_below by.Unequal a b h = ap not (apart_below a b h)
answers_below by.Less a b h = less a b h
answers_below by.AtMost a b h = most a b h
answers_below by.More a b h = not_less a b h
answers_below by.AtLeast a b h = not_most a b h

answers_at : (how : Comparison) (a : ℤ) → compared how a a ≡ answer how at
answers_at by.Equal a = itself a
answers_at by.Unequal a = ap not (itself a)
answers_at by.Less a = not_less_itself a
answers_at by.AtMost a = most_itself a
answers_at by.More a = not_less_itself a
answers_at by.AtLeast a = most_itself a

answers_above : (how : Comparison) (a b : ℤ) → b <ℤ a → compared how a b ≡ answer how above
answers_above by.Equal a b h = apart_above a b h
answers_above by.Unequal a b h = ap not (apart_above a b h)
answers_above by.Less a b h = not_less b a h
answers_above by.AtMost a b h = not_most b a h
answers_above by.More a b h = less b a h
answers_above by.AtLeast a b h = most b a h

-- the answer goes by the sign of the difference alone
pub compared_by_sign : (how : Comparison) (a b : ℤ) → compared how a b ≡ answer how (sign_of (a -ℤ b))
compared_by_sign how a b = go (a -ℤ b) refl
  where
    go : (d : ℤ) → a -ℤ b ≡ d → compared how a b ≡ answer how (sign_of (a -ℤ b))
    go (pos zero) e =
        let same : a ≡ b = omega (arith, ints, e) in
        rw e (rw same (answers_at how b))
    go (pos (suc n)) e = rw e (answers_above how a b (omega (arith, ints, e)))
    go (negsuc n) e = rw e (answers_below how a b (omega (arith, ints, e)))

-- ---- how long a number keeps its sign

not_reached : (away nearer n : ℕ) → n < until_reached (suc away) (suc nearer) → suc nearer * n ≤ away
not_reached away nearer n h =
    let one_less : (suc away - 1) / suc nearer ≡ away / suc nearer = ap (λ (m : ℕ). m / suc nearer) (omega arith) in
    let most = mul-le n (suc nearer) (away / suc nearer) (suc nearer) (omega (arith, one_less)) (omega arith) in
    let swapped = mul_comm n (suc nearer) in
    let whole = div-mul-le_self away (suc nearer) in
    omega (arith, most, swapped, whole)

at_once : (value rate : ℤ) (n : ℕ) → n < 1 → sign_of (value +ℤ rate *ℤ pos n) ≡ sign_of value
at_once value rate n h =
    let now : n ≡ 0 = omega arith in
    rw now (ap sign_of (let none = *ℤ-zero rate in omega (arith, ints, none)))

stands : (value : ℤ) (n : ℕ) → sign_of (value +ℤ pos 0 *ℤ pos n) ≡ sign_of value
stands value n = ap sign_of (let none = zero-*ℤ (pos n) in omega (arith, ints, none))

rises : (n : ℕ) → int_lt (pos 0) (pos (suc n)) ≡ true
rises n = grind (arith, ints)

no_fall : (n : ℕ) → int_lt (pos n) (pos 0) ≡ false
no_fall n = grind (arith, ints)

rising_above : (v r n : ℕ) → pos 0 <ℤ (pos (suc v) +ℤ pos r *ℤ pos n)
rising_above v r n = let product = pos-*ℤ-pos r n in omega (arith, ints, product)

falling_above : (v r n : ℕ) → suc r * n ≤ v → pos 0 <ℤ (pos (suc v) +ℤ negsuc r *ℤ pos n)
falling_above v r n short = let product = negsuc-*ℤ-pos r n in omega (arith, ints, product, short)

rising_below : (v r n : ℕ) → suc r * n ≤ v → (negsuc v +ℤ pos (suc r) *ℤ pos n) <ℤ pos 0
rising_below v r n short = let product = pos-*ℤ-pos (suc r) n in omega (arith, ints, product, short)

falling_below : (v r n : ℕ) → (negsuc v +ℤ negsuc r *ℤ pos n) <ℤ pos 0
falling_below v r n = let product = negsuc-*ℤ-pos r n in omega (arith, ints, product)

-- before the change a number has the sign that it has now
pub keeps_sign : (value rate : ℤ) (n : ℕ) → IsBefore n (until_change (record { value = value; rate = rate })) → sign_of (value +ℤ rate *ℤ pos n) ≡ sign_of value
keeps_sign (pos zero) (pos zero) n h = stands (pos 0) n
keeps_sign (pos zero) (pos (suc r)) n h =
    let up = rises r in
    let not_down = no_fall (suc r) in
    at_once (pos 0) (pos (suc r)) n (rw up at (rw not_down at h))
keeps_sign (pos zero) (negsuc r) n h = at_once (pos 0) (negsuc r) n h
keeps_sign (pos (suc v)) (pos r) n h = is_above _ (rising_above v r n)
keeps_sign (pos (suc v)) (negsuc r) n h =
    let above_now = rises v in
    is_above _ (falling_above v r n (not_reached v r n (rw above_now at h)))
keeps_sign (negsuc v) (pos zero) n h = stands (negsuc v) n
keeps_sign (negsuc v) (pos (suc r)) n h =
    let up = rises r in
    is_below _ (rising_below v r n (not_reached v r n (rw up at h)))
keeps_sign (negsuc v) (negsuc r) n h = is_below _ (falling_below v r n)
