-- What is pending on the cells: the effects of a batch before they are applied.
use Rattle.std.specs.Prelude.{◌≡◌, ℕ, ◌<◌, List, [], ◌∷◌, length, get_or, Option}
use Rattle.effect_cells.specs.Sums.{sum_limit}
use Rattle.effect_cells.specs.Worth.{magnitude_if_any}
use Rattle.effect_cells.specs.States.{applied_if_any}
use Rattle.effect_cells.specs.declared.effects.Effect.{Effect}
use Rattle.effect_cells.specs.declared.effects.CellState.{CellState}
use Rattle.effect_cells.specs.declared.pending.Pending.{Pending}

-- each cell with what is pending on it applied
abbrev pub with_pending : List CellState → List Pending → List CellState
with_pending [] pending = []
with_pending (state ∷ rest) [] = state ∷ rest
with_pending (state ∷ rest) (one ∷ others) = applied_if_any state one.effect ∷ with_pending rest others

-- on each cell is what a function has for it
abbrev pub ArePending : (ℕ → Option Effect) → List Pending → Type 0
ArePending on pending = (cell : ℕ) (one : Pending) → cell < length pending → one ≡ get_or pending cell one → one.effect ≡ on cell

-- all their numbers are below 2^120
abbrev pub AreSmallPending : List Pending → Type 0
AreSmallPending pending = (cell : ℕ) (one : Pending) → cell < length pending → one ≡ get_or pending cell one → magnitude_if_any one.effect < sum_limit
