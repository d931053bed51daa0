-- Moved and long intervals at a time depend on the times near it alone: within as much as the edges are moved, or as long as they last at least.
use Rattle.std.proofs.Common.{◌≡◌, ℕ, zero, suc, ◌+◌, ◌-◌, ◌<◌, ◌≤◌, ℤ, pos, negsuc, ◌+ℤ◌, ◌-ℤ◌, ◌≤ℤ◌, ◌<ℤ◌, Bool, true, false, cond, ◌&&◌, ◌||◌, List, [], ◌∷◌, max, refl, sym, ap, subst, ◌∙◌, arith, nat_le, nat_lt, unsigned_abs}
use Rattle.std.specs.List.{list_any}
use Rattle.std.specs.Int.RustNames.{int_le, int_lt}
use Rattle.std.proofs.lemmas.Grind.{common_steps}
use Rattle.std.proofs.lemmas.Int.{ints}
use Rattle.windows.specs.Times.{Interval, covers, contains, InOrder, AreIntervals, shifted_contains, long_contains}
use Rattle.windows.specs.Intervals.{intervals_of}
use Rattle.windows.specs.IntervalLaws.{they_are, is_the_list}
use Rattle.windows.specs.OrderLaws.{none_before}

-- ---- what an interval of a list has

-- one of the intervals that passes a test, and all of whose times the list has
record Found (reach : ℕ) (intervals : List Interval) (test : Interval → Bool) : Type 0 where
  interval : Interval
  passes : test interval ≡ true
  some_time : interval.0 < interval.1
  within : interval.1 ≤ reach
  times : (u : ℕ) → interval.0 ≤ u → u < interval.1 → contains intervals u ≡ true

found : (reach from : ℕ) (intervals : List Interval) (test : Interval → Bool) → InOrder reach from intervals → list_any test intervals ≡ true → Found reach intervals test
found reach from [] test order some = absurd (grind (arith, common_steps))
found reach from (first ∷ rest) test order some = go (found reach (first.1 + 1) rest test order.3) (test first) refl
  where
    go : (list_any test rest ≡ true → Found reach rest test) → (b : Bool) → test first ≡ b → Found reach (first ∷ rest) test
    go further true e = record { interval = first; passes = e; some_time = order.1; within = order.2; times = λ u after before. grind (arith, common_steps) }
    go further false e =
        let later = further (grind (arith, common_steps)) in
        record { interval = later.interval; passes = later.passes; some_time = later.some_time; within = later.within; times = λ u after before. let has = later.times u after before in grind (arith, common_steps) }

-- ---- an interval that has all of a run of times

-- whether an interval has all times from the one to the other
abbrev pub spans : ℕ → ℕ → Interval → Bool
spans p q interval = nat_le interval.0 p && nat_lt q interval.1

has_run : (reach from : ℕ) (intervals : List Interval) (p q : ℕ) → InOrder reach from intervals → p ≤ q → ((u : ℕ) → p ≤ u → u ≤ q → contains intervals u ≡ true) → list_any (spans p q) intervals ≡ true
has_run reach from [] p q order run all = absurd (let a = all p (omega arith) run in grind (arith, common_steps))
has_run reach from (first ∷ rest) p q order run all =
    go (λ past. has_run reach (first.1 + 1) rest p q order.3 run (λ u after before. let a = all u after before in grind (arith, common_steps)))
    (nat_le first.0 p && nat_lt q first.1) refl (nat_le p first.1) refl
  where
    go : (first.1 < p → list_any (spans p q) rest ≡ true) → (b : Bool) → (nat_le first.0 p && nat_lt q first.1) ≡ b → (c : Bool) → nat_le p first.1 ≡ c → list_any (spans p q) (first ∷ rest) ≡ true
    go in_rest true e c f = ap (λ b. b || list_any (spans p q) rest) e
    go in_rest false e false f = ap (λ b. b || list_any (spans p q) rest) e ∙ in_rest (grind arith)
    go in_rest false e true f = absurd (
        let here = all p (omega arith) run in
        let end_not = none_before reach (first.1 + 1) rest first.1 order.3 (omega arith) in
        let p_not : p ≤ first.1 → contains rest p ≡ false = λ below. none_before reach (first.1 + 1) rest p order.3 (omega (arith, below)) in
        let below : p ≤ first.1 = grind arith in
        let p_none = p_not below in
        let begun : covers first p ≡ true = grind (arith, common_steps) in
        let at_end = all first.1 below (grind (arith, common_steps)) in
        grind (arith, common_steps)
        )

-- ---- tests that agree near a time

-- both tests say the same of the times of a run that are no farther from one than this
abbrev pub AgreeNear : ℕ → ℕ → ℕ → (ℕ → Bool) → (ℕ → Bool) → Type 0
AgreeNear reach far t f g = (u : ℕ) → u < reach → t ≤ u + far → u ≤ t + far → f u ≡ g u

same : (a b : Bool) → (a ≡ true → b ≡ true) → (b ≡ true → a ≡ true) → a ≡ b
same true true f g = refl
same true false f g = sym (f refl)
same false true f g = g refl
same false false f g = refl

module _ (reach far t : ℕ) (f g : ℕ → Bool) where
  -- a run of times near it that an interval of the one has is one of the other's too
  moved_run : (p q : ℕ) → AgreeNear reach far t f g → p ≤ q → q < reach → t ≤ p + far → q ≤ t + far → ((u : ℕ) → p ≤ u → u ≤ q → contains (intervals_of reach f) u ≡ true) →
      list_any (spans p q) (intervals_of reach g) ≡ true
  moved_run p q agree order below left right all =
      let one = they_are reach f in
      let other = they_are reach g in
      has_run reach 0 (intervals_of reach g) p q other.in_order order
      (λ u after before. other.times u (omega arith) ∙ sym (agree u (omega arith) (omega arith) (omega arith)) ∙ sym (one.times u (omega arith)) ∙ all u after before)

-- whether an interval has the time once it is moved
abbrev moves : ℤ → ℤ → ℕ → Interval → Bool
moves start end t interval = int_le (pos interval.0 +ℤ start) (pos t) && int_lt (pos t) (pos interval.1 +ℤ end)

any_implied : (one other : Interval → Bool) (intervals : List Interval) → ((interval : Interval) → one interval ≡ true → other interval ≡ true) → list_any one intervals ≡ true → list_any other intervals ≡ true
any_implied one other [] implies some = some
any_implied one other (first ∷ rest) implies some = go (any_implied one other rest implies) (one first) refl
  where
    go : (list_any one rest ≡ true → list_any other rest ≡ true) → (b : Bool) → one first ≡ b → (other first || list_any other rest) ≡ true
    go further true e = ap (λ b. b || list_any other rest) (implies first e)
    go further false e = let later = further (grind (arith, common_steps)) in grind (arith, common_steps)

module _ (reach far t : ℕ) (f g : ℕ → Bool) where
  -- one of them that has the time once it is moved, with a run of times by which one of the other's has it too
  moved_once : (p q : ℕ) (start end : ℤ) → AgreeNear reach far t f g → p ≤ q → q < reach → t ≤ p + far → q ≤ t + far → (pos p +ℤ start) ≤ℤ pos t → pos t <ℤ (pos q +ℤ pos 1 +ℤ end) →
      ((u : ℕ) → p ≤ u → u ≤ q → contains (intervals_of reach f) u ≡ true) → shifted_contains start end (intervals_of reach g) t ≡ true
  moved_once p q start end agree order below left right first last all =
      any_implied (spans p q) (moves start end t) (intervals_of reach g) (λ interval e. grind (arith, ints, common_steps)) (moved_run reach far t f g p q agree order below left right all)

-- a test of integers that is true
at_most : (x y : ℤ) → int_le x y ≡ true → x ≤ℤ y
at_most x y e = grind (arith, ints)

below : (x y : ℤ) → int_lt x y ≡ true → x <ℤ y
below x y e = grind (arith, ints)

above : (x y : ℤ) → int_lt x y ≡ false → y ≤ℤ x
above x y e = grind (arith, ints)

-- an integer that is no less than a number is a number
number_from : (a : ℕ) (z : ℤ) → pos a ≤ℤ z → (v : ℕ) × (pos v ≡ z)
number_from a (pos v) least = (v, refl)
number_from a (negsuc v) least = absurd (omega (arith, ints))

and_left : (a b : Bool) → (a && b) ≡ true → a ≡ true
and_left true b both = refl
and_left false b both = both

and_right : (a b : Bool) → (a && b) ≡ true → b ≡ true
and_right true b both = both
and_right false true both = refl
and_right false false both = both

module _ (reach far t : ℕ) (start end : ℤ) (f g : ℕ → Bool) where
  -- an interval of the one that has the time once it is moved: the other has a run of its times by which it has it too
  moved_from : (a b : ℕ) → unsigned_abs start ≤ far → unsigned_abs end ≤ far → AgreeNear reach far t f g → a < b → b ≤ reach → (pos a +ℤ start) ≤ℤ pos t → pos t <ℤ (pos b +ℤ end) →
      ((u : ℕ) → a ≤ u → u < b → contains (intervals_of reach f) u ≡ true) → shifted_contains start end (intervals_of reach g) t ≡ true
  moved_from a b by_start by_end agree some_time within begun lasts times = go (int_lt (pos t) (pos a +ℤ end)) refl
    where
      run : (p q : ℕ) → a ≤ p → p ≤ q → q < b → t ≤ p + far → q ≤ t + far → (pos p +ℤ start) ≤ℤ pos t → pos t <ℤ (pos q +ℤ pos 1 +ℤ end) → shifted_contains start end (intervals_of reach g) t ≡ true
      run p q from order to left right first last =
          moved_once reach far t f g p q start end agree order (omega arith) left right first last (λ u after before. times u (omega arith) (omega arith))

      by_both : (v w : ℕ) → pos v ≡ pos t -ℤ end → pos w ≡ pos t -ℤ start → pos a ≤ℤ pos v → shifted_contains start end (intervals_of reach g) t ≡ true
      by_both v w is_v is_w from = by_order (nat_le v w) refl
        where
          by_order : (d : Bool) → nat_le v w ≡ d → shifted_contains start end (intervals_of reach g) t ≡ true
          by_order true e = let order : v ≤ w = grind arith in run v v (omega (arith, ints)) (omega arith) (omega (arith, ints)) (omega (arith, ints)) (omega (arith, ints)) (omega (arith, ints)) (omega (arith, ints))
          by_order false e = let order : w < v = grind arith in run w v (omega (arith, ints)) (omega arith) (omega (arith, ints)) (omega (arith, ints)) (omega (arith, ints)) (omega (arith, ints)) (omega (arith, ints))

      go : (c : Bool) → int_lt (pos t) (pos a +ℤ end) ≡ c → shifted_contains start end (intervals_of reach g) t ≡ true
      go true e = let after : pos t <ℤ (pos a +ℤ end) = below _ _ e in run a a (omega arith) (omega arith) some_time (omega (arith, ints)) (omega (arith, ints)) begun (omega (arith, ints))
      go false e =
          let before : (pos a +ℤ end) ≤ℤ pos t = above _ _ e in
          let v = number_from a (pos t -ℤ end) (omega (arith, ints)) in
          let w = number_from a (pos t -ℤ start) (omega (arith, ints)) in
          by_both v.0 w.0 v.1 w.1 (let is = v.1 in omega (arith, ints))

  moved_implied : unsigned_abs start ≤ far → unsigned_abs end ≤ far → AgreeNear reach far t f g → shifted_contains start end (intervals_of reach f) t ≡ true →
      shifted_contains start end (intervals_of reach g) t ≡ true
  moved_implied by_start by_end agree some =
      let here = found reach 0 (intervals_of reach f) (moves start end t) (they_are reach f).in_order some in
      moved_from here.interval.0 here.interval.1 by_start by_end agree here.some_time here.within
      (at_most _ _ (and_left (int_le (pos here.interval.0 +ℤ start) (pos t)) (int_lt (pos t) (pos here.interval.1 +ℤ end)) here.passes))
      (below _ _ (and_right (int_le (pos here.interval.0 +ℤ start) (pos t)) (int_lt (pos t) (pos here.interval.1 +ℤ end)) here.passes)) here.times

turned : (reach far t : ℕ) (f g : ℕ → Bool) → AgreeNear reach far t f g → AgreeNear reach far t g f
turned reach far t f g agree u within left right = sym (agree u within left right)

-- so moved intervals have a time alike if both tests agree within as much as their edges are moved
pub moved_near : (reach far t : ℕ) (start end : ℤ) (f g : ℕ → Bool) → unsigned_abs start ≤ far → unsigned_abs end ≤ far → AgreeNear reach far t f g →
    shifted_contains start end (intervals_of reach f) t ≡ shifted_contains start end (intervals_of reach g) t
moved_near reach far t start end f g by_start by_end agree =
    same _ _ (moved_implied reach far t start end f g by_start by_end agree) (moved_implied reach far t start end g f by_start by_end (turned reach far t f g agree))

-- ---- long intervals

-- whether an interval has the time and lasts so long
abbrev lasts : ℕ → ℕ → Interval → Bool
lasts least t interval = nat_le least (interval.1 - interval.0) && covers interval t

module _ (reach t : ℕ) (f g : ℕ → Bool) where
  long_run : (least p q : ℕ) → AgreeNear reach least t f g → p ≤ t → t ≤ q → q < reach → t ≤ p + least → q ≤ t + least → least ≤ q + 1 - p → ((u : ℕ) → p ≤ u → u ≤ q → contains (intervals_of reach f) u ≡ true) →
      long_contains least (intervals_of reach g) t ≡ true
  long_run least p q agree begun ends within left right long all =
      any_implied (spans p q) (lasts least t) (intervals_of reach g) (λ interval e. grind (arith, common_steps)) (moved_run reach least t f g p q agree (omega arith) within left right all)

  long_from : (least a b : ℕ) → AgreeNear reach least t f g → a ≤ t → t < b → b ≤ reach → least ≤ b - a → ((u : ℕ) → a ≤ u → u < b → contains (intervals_of reach f) u ≡ true) →
      long_contains least (intervals_of reach g) t ≡ true
  long_from zero a b agree begun ends within long times = long_run zero t t agree (omega arith) (omega arith) (omega arith) (omega arith) (omega arith) (omega arith) (λ u after before. times u (omega arith) (omega arith))
  long_from (suc n) a b agree begun ends within long times = go (nat_lt a (t - n)) refl
    where
      go : (c : Bool) → nat_lt a (t - n) ≡ c → long_contains (suc n) (intervals_of reach g) t ≡ true
      go true e = let from : a < t - n = grind arith in long_run (suc n) (t - n) t agree (omega arith) (omega arith) (omega arith) (omega arith) (omega arith) (omega arith) (λ u after before. times u (omega arith) (omega arith))
      go false e = let from : t - n ≤ a = grind arith in long_run (suc n) a (a + n) agree (omega arith) (omega arith) (omega arith) (omega arith) (omega arith) (omega arith) (λ u after before. times u (omega arith) (omega arith))

  long_implied : (least : ℕ) → AgreeNear reach least t f g → long_contains least (intervals_of reach f) t ≡ true → long_contains least (intervals_of reach g) t ≡ true
  long_implied least agree some =
      let here = found reach 0 (intervals_of reach f) (lasts least t) (they_are reach f).in_order some in
      let covered : covers here.interval t ≡ true = and_right (nat_le least (here.interval.1 - here.interval.0)) (covers here.interval t) here.passes in
      let long : nat_le least (here.interval.1 - here.interval.0) ≡ true = and_left (nat_le least (here.interval.1 - here.interval.0)) (covers here.interval t) here.passes in
      let begun : nat_le here.interval.0 t ≡ true = and_left (nat_le here.interval.0 t) (nat_lt t here.interval.1) covered in
      let ends : nat_lt t here.interval.1 ≡ true = and_right (nat_le here.interval.0 t) (nat_lt t here.interval.1) covered in
      long_from least here.interval.0 here.interval.1 agree (grind arith) (grind arith) here.within (grind arith) here.times

-- long intervals have a time alike if both tests agree within as long as they last at least
pub long_near : (reach least t : ℕ) (f g : ℕ → Bool) → AgreeNear reach least t f g → long_contains least (intervals_of reach f) t ≡ long_contains least (intervals_of reach g) t
long_near reach least t f g agree = same _ _ (long_implied reach t f g least agree) (long_implied reach t g f least (turned reach least t f g agree))
