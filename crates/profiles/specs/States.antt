-- States of cells from instant to instant.
use Rattle.std.specs.Prelude.{ℕ, ◌+◌, ◌≤◌, pos, List, [], ◌∷◌, Option, Some, None, nat_eq, slice_index_or, if◌then◌else◌}
use Rattle.aerie_base.specs.declared.operands.CellRead.{CellRead}
use Rattle.aerie_base.specs.expressions.Readings.{cell_of}
use Rattle.effect_cells.specs.declared.effects.CellState.{CellState}
use Rattle.effect_cells.specs.declared.effects.CellState.TheVariants.{Counter}

-- the state of the cell of a read; where there is no such cell, what reads as 0
abbrev pub state_on : List CellState → CellRead → CellState
state_on cells read = slice_index_or cells (cell_of read) (Counter (pos 0))

-- changed cells in order of number, each once, from a number on
abbrev pub RiseFrom : ℕ → List (ℕ × CellState) → Type 0
RiseFrom cell [] = Unit {0}
RiseFrom cell (entry ∷ rest) = (cell ≤ entry.0) × RiseFrom (entry.0 + 1) rest

abbrev pub unless_later : Option CellState → Option CellState → Option CellState
unless_later (Some state) other = Some state
unless_later None other = other

-- the state of a cell that changed, where it did
abbrev pub changed_state : List (ℕ × CellState) → ℕ → Option CellState
changed_state [] cell = None
changed_state (entry ∷ rest) cell = unless_later (changed_state rest cell) (if nat_eq entry.0 cell then Some entry.1 else None)
