-- The cells that a tree touches, listed as its effects are gathered, so that a commit looks at them alone.
use Rattle.std.specs.Prelude.{◌≡◌, ℕ, ◌<◌, Bool, true, false, ◌||◌, List, [], ◌∷◌, length, Option, Some, None, is_some, nat_eq, min}
use Rattle.effect_cells.specs.States.{applied_if_any, is_in_range}
use Rattle.effect_cells.specs.Gathering.{pending_at, state_at}
use Rattle.effect_cells.specs.declared.effects.CellState.{CellState}
use Rattle.effect_cells.specs.declared.pending.Pending.{Pending}

-- whether a cell is one of these
abbrev pub is_cell_among : ℕ → List ℕ → Bool
is_cell_among cell [] = false
is_cell_among cell (other ∷ rest) = nat_eq other cell || is_cell_among cell rest

-- wherever something is pending, the cell is one of these
abbrev pub CoversPending : List ℕ → List Pending → Type 0
CoversPending touched pending = (cell : ℕ) → cell < length pending → is_some (pending_at pending cell).effect ≡ true → is_cell_among cell touched ≡ true

-- and each of these is one of the cells
pub record Touches (touched : List ℕ) (pending : List Pending) : Type 0 where
  pub covers : CoversPending touched pending
  pub within : (cell : ℕ) → is_cell_among cell touched ≡ true → cell < length pending

-- ---- the first that would leave its range

-- whether a cell is in range with what is pending on it
abbrev pub is_good_at : List CellState → List Pending → ℕ → Bool
is_good_at states pending cell = is_in_range (applied_if_any (state_at states cell) (pending_at pending cell).effect)

-- the lowest cell so far, with one more that may be good
abbrev pub lower : Option ℕ → ℕ → Bool → Option ℕ
lower found cell true = found
lower None cell false = Some cell
lower (Some other) cell false = Some (min other cell)

-- the lowest of some cells that is not good
abbrev pub lowest : (ℕ → Bool) → Option ℕ → List ℕ → Option ℕ
lowest good found [] = found
lowest good found (cell ∷ rest) = lowest good (lower found cell (good cell)) rest
