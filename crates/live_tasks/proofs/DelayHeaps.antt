-- The heap of the ends of delays.
use Rattle.std.proofs.Common.{◌≡◌, ℕ, ◌<◌, ◌≤◌, Bool, true, false, not, ◌&&◌, ◌||◌, List, [], ◌∷◌, length, Option, Some, None, refl, sym, ap, subst, ◌∙◌, arith, nat_eq, nat_lt, slice_get, slice_index_or, IfSome, IfNone}
use Rattle.std.proofs.lemmas.Bool.{false≢true}
use Rattle.std.proofs.lemmas.Bool.Decides.{nat_tests}
use Rattle.std.proofs.lemmas.List.Sorted.{list_any-IsPermutation}
use Rattle.std.proofs.lemmas.Map.Keys.{IsDistinct-IsPermutation}
use Rattle.std.specs.BinaryHeap.{IsUpperBound}
use Rattle.std.specs.declared.cmp.Ordering.{Ordering}
use Rattle.std.specs.declared.cmp.Ordering.TheVariants.{Less, Equal, Greater}
use Rattle.std.specs.Ordering.{nat_cmp, is_lt, ordering_then}
use Rattle.std.specs.List.{AllByRecursion, IsDistinct, list_any}
use Rattle.std.specs.List.Sorted.{IsPermutation}
use Rattle.live_tasks.specs.LeastTimes.{IsNoneBefore, IsLeastTime}
use Rattle.live_tasks.specs.Listing.{DelayEnd, delay_end, is_same_end, end_cmp, has_delay, ends_at, IsNewDelay, HasDelayToo, HasDelayNoMore, IsFirstEnd}

-- ---- none comes twice

flips : (x y : DelayEnd) → is_same_end x y ≡ is_same_end y x
flips x y = (λ i. same x.0.0 y.0.0 i && same x.0.1 y.0.1 i)
  where
    same : (a b : ℕ) → nat_eq a b ≡ nat_eq b a
    same a b = grind (arith, nat_tests)

first_not : (a b : Bool) → (a || b) ≡ false → a ≡ false
first_not true b e = e
first_not false b e = refl

second_not : (a b : Bool) → (a || b) ≡ false → b ≡ false
second_not true b e = absurd (false≢true (sym e))
second_not false b e = e

none_same : (one : DelayEnd) (ends : List DelayEnd) → list_any (is_same_end one) ends ≡ false → AllByRecursion (λ other. is_same_end one other ≡ false) ends
none_same one [] e = tt
none_same one (first ∷ rest) e = (first_not _ _ e, none_same one rest (second_not _ _ e))

not_there : (one : DelayEnd) (ends : List DelayEnd) → AllByRecursion (λ other. is_same_end one other ≡ false) ends → list_any (is_same_end one) ends ≡ false
not_there one [] none = refl
not_there one (first ∷ rest) none = (λ i. none.0 i || not_there one rest none.1 i)

-- ---- the same in another order

module _ (ends later : List DelayEnd) (moved : IsPermutation ends later) where
  pub has_same : (time number : ℕ) → has_delay later time number ≡ has_delay ends time number
  has_same time number = sym (list_any-IsPermutation (is_same_end (delay_end time number)) ends later moved)

  pub same_once : IsDistinct is_same_end ends → IsDistinct is_same_end later
  same_once once = IsDistinct-IsPermutation is_same_end flips _ _ moved once

-- ---- one more

module _ (ends later : List DelayEnd) (until number : ℕ) (delay : Option ℕ) (is : delay ≡ Some until) (moved : IsPermutation (delay_end until number ∷ ends) later) where
  pub put_in : HasDelayToo number delay ends later
  put_in t n =
      sym (list_any-IsPermutation (is_same_end (delay_end t n)) (delay_end until number ∷ ends) later moved) ∙ the_other_way t until n number (has_delay ends t n)
      ∙ ap (λ d. has_delay ends t n || (nat_eq number n && ends_at t d)) (sym is)
    where
      the_other_way : (a b c d : ℕ) (has : Bool) → ((nat_eq a b && nat_eq c d) || has) ≡ (has || (nat_eq d c && nat_eq b a))
      the_other_way a b c d true = grind (arith, nat_tests)
      the_other_way a b c d false = grind (arith, nat_tests)

  pub put_once : IsNewDelay number delay ends → IsDistinct is_same_end ends → IsDistinct is_same_end later
  unfolding IsDistinct
  put_once new once = IsDistinct-IsPermutation is_same_end flips _ _ moved (none_same (delay_end until number) ends (new until (ap (ends_at until) is ∙ itself until)), once)
    where
      itself : (n : ℕ) → nat_eq n n ≡ true
      itself n = grind (arith, nat_tests)

-- ---- one less

module _ (ends later : List DelayEnd) (one : DelayEnd) (moved : IsPermutation ends (one ∷ later)) (once : IsDistinct is_same_end ends) where
  both : IsDistinct is_same_end (one ∷ later)
  both = IsDistinct-IsPermutation is_same_end flips _ _ moved once

  pub left_once : IsDistinct is_same_end later
  unfolding IsDistinct
  left_once = both.1

  apart : list_any (is_same_end one) later ≡ false
  unfolding IsDistinct
  apart = not_there one later both.0

  pub taken_out : HasDelayNoMore one.0.1 one.0.0 ends later
  taken_out t n = by (nat_eq t one.0.0 && nat_eq n one.0.1) refl
    where
      was : has_delay ends t n ≡ ((nat_eq t one.0.0 && nat_eq n one.0.1) || has_delay later t n)
      was = list_any-IsPermutation (is_same_end (delay_end t n)) ends (one ∷ later) moved

      the_other_way : (nat_eq one.0.1 n && nat_eq one.0.0 t) ≡ (nat_eq t one.0.0 && nat_eq n one.0.1)
      the_other_way = grind (arith, nat_tests)

      kept : (b : Bool) → (b && not false) ≡ b
      kept true = refl
      kept false = refl

      none : (b : Bool) → false ≡ (b && not true)
      none true = refl
      none false = refl

      here : (nat_eq t one.0.0 && nat_eq n one.0.1) ≡ true → has_delay later t n ≡ false
      here e =
          let time : one.0.0 ≡ t = grind (arith, nat_tests) in
          let number : one.0.1 ≡ n = grind (arith, nat_tests) in
          ap (λ a. has_delay later a n) (sym time) ∙ ap (has_delay later one.0.0) (sym number) ∙ apart

      by : (b : Bool) → (nat_eq t one.0.0 && nat_eq n one.0.1) ≡ b → has_delay later t n ≡ (has_delay ends t n && not (nat_eq one.0.1 n && nat_eq one.0.0 t))
      by true e = here e ∙ none (has_delay ends t n) ∙ ap (λ b. has_delay ends t n && not b) (sym (the_other_way ∙ e))
      by false e = sym (was ∙ ap (λ b. b || has_delay later t n) e) ∙ sym (kept (has_delay ends t n)) ∙ ap (λ b. has_delay ends t n && not b) (sym (the_other_way ∙ e))

-- ---- the first

not_above : (a b : ℕ) (o : Ordering) → is_lt (ordering_then (nat_cmp b a) o) ≡ false → a ≤ b
not_above a b o h = go (nat_cmp b a) refl h
  where
    go : (r : Ordering) → nat_cmp b a ≡ r → is_lt (ordering_then r o) ≡ false → a ≤ b
    go Less x y = absurd (cc)
    go Equal x y = grind (arith, nat_tests)
    go Greater x y = grind (arith, nat_tests)

-- none ends before the greatest by the order of the heap
pub none_earlier : (one : DelayEnd) (ends : List DelayEnd) → IsUpperBound end_cmp one ends → IsNoneBefore one.0.0 (has_delay ends)
none_earlier one [] low time number has = absurd (false≢true has)
none_earlier one (first ∷ rest) low time number has = by (nat_eq time first.0.0) refl (none_earlier one rest low.1 time number) has
  where
    by : (b : Bool) → nat_eq time first.0.0 ≡ b → (has_delay rest time number ≡ true → one.0.0 ≤ time) → ((b && nat_eq number first.0.1) || has_delay rest time number) ≡ true → one.0.0 ≤ time
    by true e further f =
        let k = not_above one.0.0 first.0.0 _ low.0 in
        grind (arith, nat_tests)
    by false e further f = further f

pub first_there : (ends : List DelayEnd) (one : DelayEnd) → slice_get ends 0 ≡ Some one → has_delay ends one.0.0 one.0.1 ≡ true
first_there [] one e = absurd (cc)
first_there (first ∷ rest) one e =
    let time : one.0.0 ≡ first.0.0 = cc in
    let number : one.0.1 ≡ first.0.1 = cc in
    let k : (nat_eq one.0.0 first.0.0 && nat_eq one.0.1 first.0.1) ≡ true = grind (arith, nat_tests) in
    ap (λ b. b || has_delay rest one.0.0 one.0.1) k

pub none_now : (ends : List DelayEnd) (one : DelayEnd) (now : ℕ) → slice_get ends 0 ≡ Some one → IsUpperBound end_cmp one ends → (one.0.0 ≡ now → ⊥) → IsNoneBefore now (has_delay ends) →
    (number : ℕ) → has_delay ends now number ≡ false
none_now ends one now is low apart none number = by (has_delay ends now number) refl
  where
    by : (b : Bool) → has_delay ends now number ≡ b → b ≡ false
    by false e = refl
    by true e =
        let below = none_earlier one ends low now number e in
        let above = none one.0.0 one.0.1 (first_there ends one is) in
        absurd (apart (omega (arith, below, above)))

-- none ends before the first
pub first_is_least : (ends : List DelayEnd) (one : DelayEnd) → slice_get ends 0 ≡ Some one → IsUpperBound end_cmp one ends → IsLeastTime (has_delay ends) (Some one.0.0)
first_is_least ends one is low = ((one.0.1, first_there ends one is), none_earlier one ends low)

pub at_first : (ends : List DelayEnd) (one : DelayEnd) → true ≡ nat_lt 0 (length ends) → one ≡ slice_index_or ends 0 one → slice_get ends 0 ≡ Some one
at_first [] one some is = absurd (false≢true (sym some))
at_first (first ∷ rest) one some is = ap Some (sym is)

pub some_there : (ends : List DelayEnd) (one : DelayEnd) → slice_get ends 0 ≡ Some one → 0 < length ends
some_there [] one is = absurd (cc)
some_there (first ∷ rest) one is = omega arith

-- ---- the first is taken out

module _ (ends later : List DelayEnd) (once : IsDistinct is_same_end ends) (time number : ℕ) (first : IsFirstEnd time number ends) where
  is_first : (one : DelayEnd) → one ≡ slice_index_or ends 0 one → one ≡ delay_end time number
  is_first one top = go ends first top
    where
      go : (all : List DelayEnd) → slice_get all 0 ≡ Some (delay_end time number) → one ≡ slice_index_or all 0 one → one ≡ delay_end time number
      go [] e f = absurd (cc)
      go (other ∷ rest) e f = cc

  pub first_out : (popped : Option DelayEnd) → (popped ≡ None → ⊥) → IfSome popped (λ one. one ≡ slice_index_or ends 0 one) → IfSome popped (λ one. IsPermutation ends (one ∷ later)) → HasDelayNoMore number time ends later
  first_out None some top moved = absurd (some refl)
  first_out (Some one) some top moved = subst (λ (x : DelayEnd). HasDelayNoMore x.0.1 x.0.0 ends later) (is_first one top) (taken_out ends later one moved once)

-- what is left has none twice
pub left_over : (More : Type 0) (ends later : List DelayEnd) (popped : Option DelayEnd) → IfSome popped (λ one. IsPermutation ends (one ∷ later)) → IfNone popped ((later ≡ ends) × More) → IsDistinct is_same_end ends →
    IsDistinct is_same_end later
left_over more ends later None moved same once = subst (IsDistinct is_same_end) (sym same.0) once
left_over more ends later (Some one) moved same once = left_once ends later one moved once
