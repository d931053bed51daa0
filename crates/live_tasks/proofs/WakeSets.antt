-- The set of the wake times that are kept.
use Rattle.std.proofs.Common.{◌≡◌, ℕ, ◌<◌, ◌≤◌, Bool, true, false, cond, not, ◌&&◌, ◌||◌, List, [], ◌∷◌, length, Option, Some, refl, ap, ◌∙◌, arith, nat_eq}
use Rattle.std.proofs.lemmas.Bool.Decides.{nat_tests}
use Rattle.std.specs.declared.cmp.Ordering.{Ordering}
use Rattle.std.specs.declared.cmp.Ordering.TheVariants.{Less, Equal, Greater}
use Rattle.std.specs.Ordering.{nat_cmp, is_eq, is_gt, ordering_then}
use Rattle.std.specs.BTreeMap.{is_at}
use Rattle.std.specs.BTreeSet as set
use Rattle.std.specs.BTreeSet.{BTreeSet}
use Rattle.live_tasks.specs.LeastTimes.{IsNoneBefore, IsLeastTime}
use Rattle.live_tasks.specs.Listing.{ends_at}
use Rattle.live_tasks.specs.WakeTimes.{wake_cmp, has_wake}

then_eq : (a b : Ordering) → is_eq (ordering_then a b) ≡ (is_eq a && is_eq b)
then_eq Less b = refl
then_eq Equal b = refl
then_eq Greater b = refl

eq_nat : (a b : ℕ) → is_eq (nat_cmp a b) ≡ nat_eq a b
eq_nat a b = grind (arith, nat_tests)

pub here : (time number t n : ℕ) → is_at (wake_cmp (time, number)) (t, n) ≡ (nat_eq time t && nat_eq number n)
here time number t n = then_eq (nat_cmp time t) (nat_cmp number n) ∙ rw (eq_nat time t, eq_nat number n) refl

added : (n m x : Bool) → cond (n && m) true x ≡ (x || (m && n))
added true true true = refl
added true true false = refl
added true false true = refl
added true false false = refl
added false true true = refl
added false true false = refl
added false false true = refl
added false false false = refl

pub put_in : (before after : BTreeSet (ℕ × ℕ)) (until number : ℕ) (time : Option ℕ) → time ≡ Some until → set.Updates wake_cmp before after (until, number) true →
    (t n : ℕ) → has_wake after t n ≡ (has_wake before t n || (nat_eq number n && ends_at t time))
put_in before after until number time e updates t n =
    rw e (updates.0 (t, n) ∙ ap (λ b. cond b true (has_wake before t n)) (here until number t n) ∙ added (nat_eq until t) (nat_eq number n) (has_wake before t n))

removed : (n m x : Bool) → cond (n && m) false x ≡ (x && not (m && n))
removed true true true = refl
removed true true false = refl
removed true false true = refl
removed true false false = refl
removed false true true = refl
removed false true false = refl
removed false false true = refl
removed false false false = refl

pub taken_out : (before after : BTreeSet (ℕ × ℕ)) (until number : ℕ) → set.Updates wake_cmp before after (until, number) false →
    (t n : ℕ) → has_wake after t n ≡ (has_wake before t n && not (nat_eq number n && nat_eq until t))
taken_out before after until number updates t n =
    updates.0 (t, n) ∙ ap (λ b. cond b false (has_wake before t n)) (here until number t n) ∙ removed (nat_eq until t) (nat_eq number n) (has_wake before t n)

-- ---- the first

not_above : (a b : ℕ) (o : Ordering) → is_gt (ordering_then (nat_cmp a b) o) ≡ false → a ≤ b
not_above a b o h = go (nat_cmp a b) refl h
  where
    go : (r : Ordering) → nat_cmp a b ≡ r → is_gt (ordering_then r o) ≡ false → a ≤ b
    go Less x y = grind (arith, nat_tests)
    go Equal x y = grind (arith, nat_tests)
    go Greater x y = absurd (cc)

pub none_there : (wakes : BTreeSet (ℕ × ℕ)) (now t n : ℕ) → has_wake wakes t n ≡ true → set.IsLowerBound wake_cmp wakes (t, n) → (t ≡ now → ⊥) → IsNoneBefore now (has_wake wakes) →
    (number : ℕ) → has_wake wakes now number ≡ false
none_there wakes now t n has low apart none number = by (has_wake wakes now number) refl
  where
    by : (b : Bool) → has_wake wakes now number ≡ b → b ≡ false
    by false e = refl
    by true e =
        let below = not_above t now (nat_cmp n number) (low (now, number) e) in
        let above = none t n has in
        absurd (apart (omega (arith, below, above)))

-- none ends before the first
pub first_is_least : (wakes : BTreeSet (ℕ × ℕ)) (t n : ℕ) → has_wake wakes t n ≡ true → set.IsLowerBound wake_cmp wakes (t, n) → IsLeastTime (has_wake wakes) (Some t)
first_is_least wakes t n has low = ((n, has), λ time number e. not_above t time (nat_cmp n number) (low (time, number) e))

pub none_at_all : (wakes : BTreeSet (ℕ × ℕ)) → wakes.keys ≡ [] → (time number : ℕ) → has_wake wakes time number ≡ false
none_at_all wakes e time number = rw e refl

pub empty_from_length : {X : Type 0} (xs : List X) → (0 < length xs → false ≡ true) → xs ≡ []
empty_from_length [] h = refl
empty_from_length (x ∷ xs) h = let k = h (omega arith) in absurd (cc)
