-- When a waiting condition comes to hold by itself: a search over the times from now on.
use Rattle.std.specs.Prelude.{◌≡◌, ℕ, pos, Bool, List, [], ◌∷◌, Option, Some, None, refl}
use Rattle.aerie_base.specs.conditions.Holding.{holds}
use Rattle.aerie_base.specs.declared.conditions.Cond.{Cond, Compare}
use Rattle.aerie_base.specs.declared.expressions.Comparison.TheVariants.{AtLeast}
use Rattle.aerie_base.specs.declared.operands.Operand.TheVariants as operand
use Rattle.aerie_base.specs.declared.operands.CellRead.TheVariants as read
use Rattle.effect_cells.specs.Cells.{passed}
use Rattle.effect_cells.specs.Reads.{value_on}
use Rattle.effect_cells.specs.Searching.{least_from}
use Rattle.effect_cells.specs.declared.effects.CellState.{CellState}
use Rattle.effect_cells.specs.declared.effects.CellState.TheVariants.{Counter, Volume}

-- whether a condition without locals holds on cells
abbrev pub holds_on : List CellState → Cond → Bool
holds_on cells condition = holds condition (value_on cells) []

-- whether it holds so many microseconds from now, if the cells only evolve by themselves
abbrev pub holds_in : List CellState → Cond → ℕ → Bool
holds_in cells condition dt = holds_on (passed cells dt) condition

-- the least time below the limit at which it holds, counted from now; none where there is none
abbrev pub wake_time : List CellState → Cond → ℕ → Option ℕ
wake_time cells condition limit = least_from (holds_in cells condition) 0 limit

-- ---- worked cases

-- a counter that stands at 0, and an accumulator that begins at 0 and rises by 3 each microsecond
abbrev pub filling : List CellState
filling = Counter (pos 0) ∷ Volume (pos 0) (pos 3) ∷ []

-- the volume is at least 10, and the counter at least 0
abbrev pub ten_are_there : Cond
ten_are_there =
    Compare (record { terms = record { coefficient = pos 1; operand = operand.Read (read.Volume 1) } ∷ []; constant = pos 0 }) AtLeast
    (record { terms = []; constant = pos 10 })

abbrev pub none_are_needed : Cond
none_are_needed =
    Compare (record { terms = record { coefficient = pos 1; operand = operand.Read (read.Counter 0) } ∷ []; constant = pos 0 }) AtLeast
    (record { terms = []; constant = pos 0 })

-- 9 after three microseconds, 12 after four
pub first_time_that_is_enough : wake_time filling ten_are_there 100 ≡ Some 4
unfolding holds
first_time_that_is_enough = refl

pub limit_is_not_included : wake_time filling ten_are_there 4 ≡ None
unfolding holds
limit_is_not_included = refl

pub holds_at_once : wake_time filling none_are_needed 100 ≡ Some 0
unfolding holds
holds_at_once = refl
