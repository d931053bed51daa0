-- How a straight line through 0 compares with a number.
use Rattle.std.specs.Prelude.{◌≡◌, ℕ, ◌≤◌, ℤ, Bool, ◌&&◌, ◌||◌, List, cond, int_lt}
use Rattle.std.specs.declared.cmp.Ordering.{Ordering}
use Rattle.std.specs.Ordering.{is_eq, is_ne, is_lt, is_le, is_gt, is_ge}
use Rattle.aerie_base.specs.declared.expressions.Comparison.{Comparison}
use Rattle.aerie_base.specs.declared.expressions.Comparison.TheVariants.{Equal, Unequal, Less, AtMost, More, AtLeast}
use Rattle.windows.specs.Times.{Interval, covers, contains, InOrder}
use Rattle.windows.specs.Joining.{last_start}
use Rattle.windows.specs.declared.crossing.Crossing.{Crossing}

-- the order at a step, which may be below 0
abbrev pub order_at : Crossing → ℤ → Ordering
order_at crossing step = cond (int_lt step crossing.at) crossing.before (cond (int_lt crossing.at step) crossing.after crossing.there)

-- whether two numbers that stand in this order are so compared
abbrev pub meets : Comparison → Ordering → Bool
meets Equal order = is_eq order
meets Unequal order = is_ne order
meets Less order = is_lt order
meets AtMost order = is_le order
meets More order = is_gt order
meets AtLeast order = is_ge order

-- the new intervals have the times of the old ones and those of one interval more at which the test is true
pub record JoinsWhere (old : List Interval) (from to : ℕ) (test : ℕ → Bool) (new : List Interval) : Type 0 where
  pub times : (t : ℕ) → contains new t ≡ (contains old t || (covers (from, to) t && test t))
  pub in_order : (reach : ℕ) → InOrder reach 0 old → to ≤ reach → InOrder reach 0 new
  pub start : last_start new ≤ to
