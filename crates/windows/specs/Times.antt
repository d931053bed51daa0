-- Sets of whole times, written as lists of half-open intervals.
use Rattle.std.specs.Prelude.{◌≡◌, ℕ, ◌+◌, ◌-◌, ◌<◌, ◌≤◌, ℤ, pos, negsuc, ◌+ℤ◌, Bool, true, false, cond, ◌&&◌, List, [], ◌∷◌, nat_le, nat_lt, int_le, int_lt, refl}
use Rattle.std.specs.List.{list_any}

-- from its start, up to its end and without it
abbrev pub Interval : Type 0
Interval = ℕ × ℕ

-- whether the interval has the time; one that ends where it starts, or before, has none
abbrev pub covers : Interval → ℕ → Bool
covers interval t = nat_le interval.0 t && nat_lt t interval.1

-- whether one of the intervals, in whatever order they stand, has the time
abbrev pub contains : List Interval → ℕ → Bool
contains intervals t = list_any (λ interval. covers interval t) intervals

-- none is empty, none begins before the time `from`, each begins after the end of the one before it (so that they
-- neither overlap nor touch), and none ends past the reach
abbrev pub InOrder : ℕ → ℕ → List Interval → Type 0
InOrder reach from [] = Unit {0}
InOrder reach from (interval ∷ rest) = (from ≤ interval.0) × (interval.0 < interval.1) × (interval.1 ≤ reach) × InOrder reach (interval.1 + 1) rest

-- these are, in order, the maximal intervals of [0, reach) on which the test is true
pub record AreIntervals (reach : ℕ) (test : ℕ → Bool) (intervals : List Interval) : Type 0 where
  pub in_order : InOrder reach 0 intervals
  pub times : (t : ℕ) → t < reach → contains intervals t ≡ test t

-- a set of times in [0, reach)
pub record TimeSet : Type 0 where
  pub reach : ℕ
  pub intervals : List Interval

-- whether some of the intervals has the time once its start is moved by the first number and its end by the second
abbrev pub shifted_contains : ℤ → ℤ → List Interval → ℕ → Bool
shifted_contains start end intervals t =
    list_any (λ interval. int_le (pos interval.0 +ℤ start) (pos t) && int_lt (pos t) (pos interval.1 +ℤ end)) intervals

-- whether some of the intervals has the time and is at least so long
abbrev pub long_contains : ℕ → List Interval → ℕ → Bool
long_contains least intervals t = list_any (λ interval. nat_le least (interval.1 - interval.0) && covers interval t) intervals

-- whether the time is in the second ones where the interval covers it, and in the first ones elsewhere
abbrev pub replaced_contains : List Interval → List Interval → Interval → ℕ → Bool
replaced_contains outside inside span t = cond (covers span t) (contains inside t) (contains outside t)

-- ---- worked cases

-- the first time is in, the end is not
pub first_time : contains ((5, 15) ∷ []) 5 ≡ true
first_time = refl

pub last_time : contains ((5, 15) ∷ []) 14 ≡ true
last_time = refl

pub its_end : contains ((5, 15) ∷ []) 15 ≡ false
its_end = refl

pub between_two : contains ((5, 15) ∷ (20, 30) ∷ []) 17 ≡ false
between_two = refl

pub empty_interval : contains ((5, 5) ∷ (9, 3) ∷ []) 5 ≡ false
empty_interval = refl

-- [5, 15) with its start moved by 2 and its end by -3 is [7, 12)
pub shifted_first : shifted_contains (pos 2) (negsuc 2) ((5, 15) ∷ []) 7 ≡ true
shifted_first = refl

pub shifted_before : shifted_contains (pos 2) (negsuc 2) ((5, 15) ∷ []) 6 ≡ false
shifted_before = refl

pub shifted_last : shifted_contains (pos 2) (negsuc 2) ((5, 15) ∷ []) 11 ≡ true
shifted_last = refl

pub shifted_end : shifted_contains (pos 2) (negsuc 2) ((5, 15) ∷ []) 12 ≡ false
shifted_end = refl

-- moved to before 0, it still has the times from 0 on
pub shifted_over_the_start : shifted_contains (negsuc 9) (negsuc 9) ((5, 15) ∷ []) 0 ≡ true
shifted_over_the_start = refl

pub long_enough : long_contains 10 ((5, 15) ∷ []) 5 ≡ true
long_enough = refl

pub too_short : long_contains 11 ((5, 15) ∷ []) 5 ≡ false
too_short = refl
