-- The maximal intervals of a test, as a function.
use Rattle.std.specs.Prelude.{◌≡◌, ℕ, zero, suc, ◌+◌, Bool, true, cond, List, [], ◌∷◌, nat_eq, nat_le, refl}
use Rattle.windows.specs.Times.{Interval}

-- one time more, which is later than all of the others: it goes on with the last interval where that ends there
abbrev pub one_time_more : List Interval → ℕ → List Interval
one_time_more [] t = (t, t + 1) ∷ []
one_time_more (last ∷ []) t = cond (nat_le t last.1) ((last.0, t + 1) ∷ []) (last ∷ (t, t + 1) ∷ [])
one_time_more (first ∷ next ∷ rest) t = first ∷ one_time_more (next ∷ rest) t

-- the maximal intervals of the times below the reach at which the test is true, in order
abbrev pub intervals_of : ℕ → (ℕ → Bool) → List Interval
intervals_of zero test = []
intervals_of (suc t) test = let before = intervals_of t test in cond (test t) (one_time_more before t) before

-- ---- worked cases

pub two_intervals : intervals_of 6 (λ t. cond (nat_le t 1) true (nat_le 4 t)) ≡ (0, 2) ∷ (4, 6) ∷ []
two_intervals = refl

pub neighbours_are_one : intervals_of 6 (λ t. cond (nat_eq t 3) true (nat_eq t 4)) ≡ (3, 5) ∷ []
neighbours_are_one = refl

pub none_of_an_empty_time : intervals_of 0 (λ t. true) ≡ []
none_of_an_empty_time = refl
