-- The times of one set between two times, put behind intervals that began before.
use Rattle.std.proofs.Common.{◌≡◌, ℕ, zero, suc, ◌+◌, ◌<◌, ◌≤◌, min, max, Bool, true, false, ◌&&◌, ◌||◌, List, [], ◌∷◌, length, drop, get_or, refl, sym, ap, ◌∙◌, arith, nat_le, nat_lt}
use Rattle.std.proofs.lemmas.Grind.{common_steps}
use Rattle.std.specs.List.Sorted.{IsPartitionPoint}
use Rattle.windows.specs.Times.{Interval, covers, contains, replaced_contains, InOrder, AreIntervals}
use Rattle.windows.specs.Crossing.{JoinsWhere}
use Rattle.windows.specs.Joining.{last_start, Joins}
use Rattle.windows.specs.OrderLaws.{none_before, order_from, above}
use Rattle.windows.proofs.Both.{first_start, cut_at}

-- what the loop keeps
pub record Between (reach : ℕ) (old made rest whole : List Interval) (from to : ℕ) : Type 0 where
  pub times : (t : ℕ) → (contains made t || (covers (from, to) t && contains rest t)) ≡ (contains old t || (covers (from, to) t && contains whole t))
  pub in_order : (reach : ℕ) → InOrder reach 0 old → to ≤ reach → InOrder reach 0 made
  pub order : InOrder reach 0 rest
  pub behind : last_start made ≤ max from (first_start to rest)
  pub start : last_start made ≤ to

order_drop : (reach from i : ℕ) (whole : List Interval) → InOrder reach from whole → InOrder reach 0 (drop i whole)
order_drop reach from zero whole order = order_from reach from 0 whole (omega arith) order
order_drop reach from (suc i) [] order = tt
order_drop reach from (suc i) (first ∷ rest) order = order_drop reach (first.1 + 1) i rest order.3

-- what has ended by `from` has no time from there on
drop_passed : (from i t : ℕ) (whole : List Interval) → ((k : ℕ) (d : Interval) → k < i → k < length whole → nat_le (get_or whole k d).1 from ≡ true) → from ≤ t → contains (drop i whole) t ≡ contains whole t
drop_passed from zero t whole ended after = refl
drop_passed from (suc i) t [] ended after = refl
drop_passed from (suc i) t (first ∷ rest) ended after =
    let rest_passed = drop_passed from i t rest (λ k d below within. ended (suc k) d (omega arith) (omega arith)) after in
    let here : nat_le first.1 from ≡ true = ended zero first (omega arith) (omega arith) in
    rest_passed ∙ passed here
  where
    passed : nat_le first.1 from ≡ true → contains rest t ≡ contains (first ∷ rest) t
    passed here = grind (arith, common_steps)

pub between_none : (reach i : ℕ) (old whole : List Interval) (from to : ℕ) → InOrder reach 0 whole → last_start old ≤ from → from ≤ to →
    IsPartitionPoint (λ interval. nat_le interval.1 from ≡ true) (λ interval. nat_le interval.1 from ≡ false) whole i → Between reach old old (drop i whole) whole from to
between_none reach i old whole from to order start span point = record {
  times = λ t. ap (λ b. contains old t || b) (inside t);
  in_order = λ reach before within. before;
  order = order_drop reach 0 i whole order;
  behind = omega arith;
  start = omega arith;
}
  where
    inside : (t : ℕ) → (covers (from, to) t && contains (drop i whole) t) ≡ (covers (from, to) t && contains whole t)
    inside t = go (nat_le from t) refl
      where
        go : (b : Bool) → nat_le from t ≡ b → (covers (from, to) t && contains (drop i whole) t) ≡ (covers (from, to) t && contains whole t)
        go true e = ap (λ b. covers (from, to) t && b) (drop_passed from i t whole (λ k d below within. point.0 k d (omega arith) below) (grind arith))
        go false e = grind (arith, common_steps)

-- what an interval has between the two
clip : (first : Interval) (from to t : ℕ) → covers (max from first.0, min first.1 to) t ≡ (covers (from, to) t && covers first t)
clip first from to t = grind (arith, common_steps)

regroup : (m c f r : Bool) → ((m || (c && f)) || (c && r)) ≡ (m || (c && (f || r)))
regroup true c f r = refl
regroup false true f r = refl
regroup false false f r = refl

start_of_rest : (reach to : ℕ) (first : Interval) (rest : List Interval) → InOrder reach 0 (first ∷ rest) → first.0 < to → first.0 ≤ first_start to rest
start_of_rest reach to first [] order below = omega arith
start_of_rest reach to first (next ∷ rest) order below = omega (arith, order.1, order.3.0)

-- within the list the default does not count
same_there : (whole : List Interval) (i : ℕ) (a b : Interval) → i < length whole → get_or whole i a ≡ get_or whole i b
same_there [] i a b within = absurd (omega arith)
same_there (x ∷ xs) zero a b within = refl
same_there (x ∷ xs) (suc i) a b within = same_there xs i a b (omega arith)

pub between_more : (reach i : ℕ) (old made new whole : List Interval) (from to : ℕ) (seen first : Interval) → i < length whole → first ≡ get_or whole i first → nat_le to (get_or whole i seen).0 ≡ false → from ≤ to →
    Between reach old made (drop i whole) whole from to → Joins made (max from first.0) (min first.1 to) new → Between reach old new (drop (i + 1) whole) whole from to
between_more reach i old made new whole from to seen first within is test span before joins =
    let cut = cut_at whole i first within is in
    let below : first.0 < to = above _ _ (ap (λ (x : Interval). nat_le to x.0) (is ∙ same_there whole i first seen within) ∙ test) in
    let order : InOrder reach 0 (first ∷ drop (i + 1) whole) = rw cut at before.order in
    let later = start_of_rest reach to first (drop (i + 1) whole) order below in
    record {
      times = λ t.
          ap (λ b. b || (covers (from, to) t && contains (drop (i + 1) whole) t)) (joins.times t ∙ ap (λ b. contains made t || b) (clip first from to t))
          ∙ (regroup (contains made t) (covers (from, to) t) (covers first t) (contains (drop (i + 1) whole) t)
          ∙ (ap (λ (l : List Interval). contains made t || (covers (from, to) t && contains l t)) (sym cut)
          ∙ before.times t));
      in_order = λ limit begun ends. joins.in_order limit (before.in_order limit begun ends) (omega arith);
      order = order_from reach (first.1 + 1) 0 (drop (i + 1) whole) (omega arith) order.3;
      behind = omega (arith, joins.start, later);
      start = omega (arith, joins.start, below, span);
    }

or_none : (a b : Bool) → b ≡ false → a ≡ (a || b)
or_none true b none = refl
or_none false b none = sym none

between_done : (reach : ℕ) (old made rest whole : List Interval) (from to : ℕ) → ((t : ℕ) → (covers (from, to) t && contains rest t) ≡ false) → Between reach old made rest whole from to →
    JoinsWhere old from to (λ t. contains whole t) made
between_done reach old made rest whole from to none before = record {
  times = λ t. or_none (contains made t) (covers (from, to) t && contains rest t) (none t) ∙ before.times t;
  in_order = before.in_order;
  start = before.start;
}

pub between_end : (reach i : ℕ) (old made whole : List Interval) (from to : ℕ) → drop i whole ≡ [] → Between reach old made (drop i whole) whole from to → JoinsWhere old from to (λ t. contains whole t) made
between_end reach i old made whole from to end before = between_done reach old made (drop i whole) whole from to none before
  where
    and_false : (b : Bool) → (b && false) ≡ false
    and_false true = refl
    and_false false = refl

    none : (t : ℕ) → (covers (from, to) t && contains (drop i whole) t) ≡ false
    none t = ap (λ (l : List Interval). covers (from, to) t && contains l t) end ∙ and_false (covers (from, to) t)

pub between_past : (reach i : ℕ) (old made whole : List Interval) (from to : ℕ) (first : Interval) → i < length whole → first ≡ get_or whole i first → nat_le to (get_or whole i first).0 ≡ true →
    Between reach old made (drop i whole) whole from to → JoinsWhere old from to (λ t. contains whole t) made
between_past reach i old made whole from to first within is found before = between_done reach old made (drop i whole) whole from to none before
  where
    test : nat_le to first.0 ≡ true
    test = ap (λ (x : Interval). nat_le to x.0) is ∙ found

    cut : drop i whole ≡ first ∷ drop (i + 1) whole
    cut = cut_at whole i first within is

    order : InOrder reach 0 (first ∷ drop (i + 1) whole)
    order = rw cut at before.order

    none : (t : ℕ) → (covers (from, to) t && contains (drop i whole) t) ≡ false
    none t = ap (λ (l : List Interval). covers (from, to) t && contains l t) cut ∙ go (nat_lt t to) refl
      where
        go : (b : Bool) → nat_lt t to ≡ b → (covers (from, to) t && contains (first ∷ drop (i + 1) whole) t) ≡ false
        go true e =
            let below : t < first.0 = grind arith in
            let absent = none_before reach first.0 (first ∷ drop (i + 1) whole) t (omega arith, order.1, order.2, order.3) below in
            grind (arith, common_steps)
        go false e = grind (arith, common_steps)

-- three pieces are the whole
pub three_pieces : (reach : ℕ) (outside inside a b c : List Interval) (from to : ℕ) → from ≤ to → to ≤ reach →
    JoinsWhere [] 0 from (λ t. contains outside t) a → JoinsWhere a from to (λ t. contains inside t) b → JoinsWhere b to reach (λ t. contains outside t) c →
    AreIntervals reach (λ t. replaced_contains outside inside (from, to) t) c
three_pieces reach outside inside a b c from to span within first second third = record {
  in_order = third.in_order reach (second.in_order reach (first.in_order reach tt (omega arith)) within) (omega arith);
  times = λ t below.
      let one = first.times t in
      let two = second.times t in
      let three = third.times t in
      three ∙ (ap (λ b. b || (covers (to, reach) t && contains outside t)) (two ∙ ap (λ b. b || (covers (from, to) t && contains inside t)) one) ∙ pieces t below);
}
  where
    pieces : (t : ℕ) → t < reach →
        (((contains [] t || (covers (0, from) t && contains outside t)) || (covers (from, to) t && contains inside t)) || (covers (to, reach) t && contains outside t))
        ≡ replaced_contains outside inside (from, to) t
    pieces t below = by_from (nat_le from t) refl
      where
        by_to : nat_le from t ≡ true → (b : Bool) → nat_lt t to ≡ b →
            (((contains [] t || (covers (0, from) t && contains outside t)) || (covers (from, to) t && contains inside t)) || (covers (to, reach) t && contains outside t)) ≡ replaced_contains outside inside (from, to) t
        by_to d true e = grind (arith, common_steps)
        by_to d false e = grind (arith, common_steps)

        by_from : (b : Bool) → nat_le from t ≡ b →
            (((contains [] t || (covers (0, from) t && contains outside t)) || (covers (from, to) t && contains inside t)) || (covers (to, reach) t && contains outside t)) ≡ replaced_contains outside inside (from, to) t
        by_from true e = by_to e (nat_lt t to) refl
        by_from false e = grind (arith, common_steps)
