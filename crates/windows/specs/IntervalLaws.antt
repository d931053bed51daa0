-- A file of lemmas: what it proves need not be read to trust a clause.
-- The maximal intervals of a test, as a function gives them, are those of the relation, and no others are.
use Rattle.std.proofs.Common.{◌≡◌, ℕ, zero, suc, ◌+◌, ◌<◌, ◌≤◌, Bool, true, false, cond, ◌||◌, List, [], ◌∷◌, refl, sym, ap, ◌∙◌, arith, nat_le, nat_lt}
use Rattle.std.proofs.lemmas.Grind.{common_steps}
use Rattle.windows.specs.Times.{Interval, covers, contains, InOrder, AreIntervals}
use Rattle.windows.specs.UniqueLaws.{only_one}
use Rattle.windows.specs.OrderLaws.{none_past}
use Rattle.windows.specs.Intervals.{one_time_more, intervals_of}

order_up : (reach from : ℕ) (is : List Interval) → InOrder reach from is → InOrder (suc reach) from is
order_up reach from [] order = tt
order_up reach from (first ∷ rest) order = (order.0, order.1, omega (arith, order.2), order_up reach (first.1 + 1) rest order.3)

with_order : (reach from : ℕ) (is : List Interval) → from ≤ reach → InOrder reach from is → InOrder (suc reach) from (one_time_more is reach)
with_order reach from [] within order = (within, omega arith, omega arith, tt)
with_order reach from (last ∷ []) within order = go (nat_le reach last.1) refl
  where
    go : (b : Bool) → nat_le reach last.1 ≡ b → InOrder (suc reach) from (cond b ((last.0, reach + 1) ∷ []) (last ∷ (reach, reach + 1) ∷ []))
    go true e = (order.0, omega (arith, order.1, order.2), omega arith, tt)
    go false e =
        let below : last.1 < reach = grind arith in
        (order.0, order.1, omega (arith, order.2), (omega arith, omega arith, omega arith, tt))
with_order reach from (first ∷ next ∷ rest) within order =
    (order.0, order.1, omega (arith, order.2), with_order reach (first.1 + 1) (next ∷ rest) (omega (arith, order.3.0, order.3.1, order.3.2)) order.3)

or_assoc : (a b c : Bool) → (a || (b || c)) ≡ ((a || b) || c)
or_assoc true b c = refl
or_assoc false b c = refl

with_times : (reach from t : ℕ) (is : List Interval) → InOrder reach from is → contains (one_time_more is reach) t ≡ (contains is t || covers (reach, reach + 1) t)
with_times reach from t [] order = grind (arith, common_steps)
with_times reach from t (last ∷ []) order = go (nat_le reach last.1) refl
  where
    go : (b : Bool) → nat_le reach last.1 ≡ b → contains (cond b ((last.0, reach + 1) ∷ []) (last ∷ (reach, reach + 1) ∷ [])) t ≡ (contains (last ∷ []) t || covers (reach, reach + 1) t)
    go true e =
        let one = order.1 in
        let two = order.2 in
        grind (arith, common_steps)
    go false e = grind (arith, common_steps)
with_times reach from t (first ∷ next ∷ rest) order =
    ap (λ b. covers first t || b) (with_times reach (first.1 + 1) t (next ∷ rest) order.3)
    ∙ or_assoc (covers first t) (contains (next ∷ rest) t) (covers (reach, reach + 1) t)

one_more : (reach : ℕ) (test : ℕ → Bool) (is : List Interval) (b : Bool) → test reach ≡ b → AreIntervals reach test is → AreIntervals (suc reach) test (cond b (one_time_more is reach) is)
one_more reach test is true e before = record {
  in_order = with_order reach 0 is (omega arith) before.in_order;
  times = λ t below. with_times reach 0 t is before.in_order ∙ go t below (nat_lt t reach) refl;
}
  where
    go : (t : ℕ) → t < suc reach → (b : Bool) → nat_lt t reach ≡ b → (contains is t || covers (reach, reach + 1) t) ≡ test t
    go t below true f =
        let here = before.times t (grind arith) in
        grind (arith, common_steps)
    go t below false f =
        let same : t ≡ reach = grind arith in
        let here : test t ≡ true = ap test same ∙ e in
        grind (arith, common_steps)
one_more reach test is false e before = record {
  in_order = order_up reach 0 is before.in_order;
  times = λ t below. go t below (nat_lt t reach) refl;
}
  where
    go : (t : ℕ) → t < suc reach → (b : Bool) → nat_lt t reach ≡ b → contains is t ≡ test t
    go t below true f = before.times t (grind arith)
    go t below false f =
        let same : t ≡ reach = grind arith in
        let here : test t ≡ false = ap test same ∙ e in
        none_past reach 0 is t before.in_order (omega arith) ∙ sym here

pub they_are : (reach : ℕ) (test : ℕ → Bool) → AreIntervals reach test (intervals_of reach test)
they_are zero test = record { in_order = tt; times = λ t below. absurd (omega arith) }
they_are (suc reach) test = one_more reach test (intervals_of reach test) (test reach) refl (they_are reach test)

-- so a list that the relation fits is the function's
pub is_the_list : (reach : ℕ) (test : ℕ → Bool) (is : List Interval) → AreIntervals reach test is → is ≡ intervals_of reach test
is_the_list reach test is are =
    let whole = they_are reach test in
    only_one reach (intervals_of reach test) is whole.in_order (record { in_order = are.in_order; times = λ t below. are.times t below ∙ sym (whole.times t below) })
