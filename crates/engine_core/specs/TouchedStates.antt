-- The states of cells by their numbers.
use Rattle.std.specs.Prelude.{ℕ, List, [], ◌∷◌, Option, Some, None, slice_get}
use Rattle.effect_cells.specs.declared.effects.CellState.{CellState}

-- the state of a cell with its number before others, if there is such a cell
abbrev pub with_state : ℕ → Option CellState → List (ℕ × CellState) → List (ℕ × CellState)
with_state number None rest = rest
with_state number (Some state) rest = (number, state) ∷ rest

-- the states of the cells of these numbers, one after another
abbrev pub states_at : List CellState → List ℕ → List (ℕ × CellState)
states_at cells [] = []
states_at cells (number ∷ rest) = with_state number (slice_get cells number) (states_at cells rest)
