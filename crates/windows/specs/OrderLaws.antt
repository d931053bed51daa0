-- A file of lemmas: what it proves need not be read to trust a clause.
-- Intervals in order, and one more behind them.
use Rattle.std.proofs.Common.{◌≡◌, ℕ, ◌+◌, ◌<◌, ◌≤◌, true, false, ◌||◌, List, [], ◌∷◌, ◌++◌, refl, arith, nat_le}
use Rattle.std.proofs.lemmas.Grind.{common_steps}
use Rattle.std.proofs.lemmas.List.Folds.{list_any-append}
use Rattle.windows.specs.Times.{Interval, covers, contains, InOrder}

-- the least start that does not touch the last of them
abbrev pub next_start : ℕ → List Interval → ℕ
next_start from [] = from
next_start from (interval ∷ rest) = next_start (interval.1 + 1) rest

-- what is known of one that stands behind others
pub record IsBehind (reach from : ℕ) (intervals : List Interval) (interval : Interval) : Type 0 where
  pub front : InOrder reach from intervals
  pub later : next_start from intervals ≤ interval.0
  pub some_time : interval.0 < interval.1
  pub within : interval.1 ≤ reach

pub push_parts : (reach from : ℕ) (intervals : List Interval) (interval : Interval) → InOrder reach from (intervals ++ interval ∷ []) → IsBehind reach from intervals interval
push_parts reach from [] interval order = record { front = tt; later = order.0; some_time = order.1; within = order.2 }
push_parts reach from (first ∷ rest) interval order =
    let behind = push_parts reach (first.1 + 1) rest interval order.3 in
    record { front = (order.0, order.1, order.2, behind.front); later = behind.later; some_time = behind.some_time; within = behind.within }

pub push_order : (reach from : ℕ) (intervals : List Interval) (interval : Interval) → IsBehind reach from intervals interval → InOrder reach from (intervals ++ interval ∷ [])
push_order reach from [] interval behind = (behind.later, behind.some_time, behind.within, tt)
push_order reach from (first ∷ rest) interval behind =
    (behind.front.0, behind.front.1, behind.front.2, push_order reach (first.1 + 1) rest interval (record { front = behind.front.3; later = behind.later; some_time = behind.some_time; within = behind.within }))

pub next_push : (from : ℕ) (intervals : List Interval) (interval : Interval) → next_start from (intervals ++ interval ∷ []) ≡ interval.1 + 1
next_push from [] interval = refl
next_push from (first ∷ rest) interval = next_push (first.1 + 1) rest interval

pub contains_push : (intervals : List Interval) (interval : Interval) (t : ℕ) → contains (intervals ++ interval ∷ []) t ≡ (contains intervals t || covers interval t)
contains_push intervals interval t = let joined = list_any-append (λ i. covers i t) intervals (interval ∷ []) in grind (arith, common_steps)

-- intervals in order have no time before the first and none from the reach on
pub none_before : (reach from : ℕ) (intervals : List Interval) (t : ℕ) → InOrder reach from intervals → t < from → contains intervals t ≡ false
none_before reach from [] t order below = refl
none_before reach from (first ∷ rest) t order below =
    let after : contains rest t ≡ false = none_before reach (first.1 + 1) rest t order.3 (omega (arith, order.0, order.1)) in
    let before : t < first.0 = omega (arith, order.0) in
    grind (arith, common_steps)

pub none_past : (reach from : ℕ) (intervals : List Interval) (t : ℕ) → InOrder reach from intervals → reach ≤ t → contains intervals t ≡ false
none_past reach from [] t order above = refl
none_past reach from (first ∷ rest) t order above =
    let after : contains rest t ≡ false = none_past reach (first.1 + 1) rest t order.3 above in
    let past : first.1 ≤ t = omega (arith, order.2) in
    grind (arith, common_steps)

-- what begins later may be asked to begin earlier
pub order_from : (reach from earlier : ℕ) (intervals : List Interval) → earlier ≤ from → InOrder reach from intervals → InOrder reach earlier intervals
order_from reach from earlier [] below order = tt
order_from reach from earlier (first ∷ rest) below order = (omega (arith, order.0), order.1, order.2, order.3)

-- what a test has found
pub at_most : (a b : ℕ) → nat_le a b ≡ true → a ≤ b
at_most a b test = grind arith

pub above : (a b : ℕ) → nat_le a b ≡ false → b < a
above a b test = grind arith
