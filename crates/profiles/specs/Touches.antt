-- Which instants touch a cell: those of its changes.
use Rattle.std.specs.Prelude.{◌≡◌, ◌⊎◌, ℕ, zero, suc, ◌<◌, List, [], ◌∷◌, ◌++◌, Option, Some, None, is_some, length, nat_eq, nat_lt, slice_get, cond}
use Rattle.aerie_base.specs.declared.linear.Term.{Term}
use Rattle.aerie_base.specs.declared.operands.Operand.{Operand}
use Rattle.aerie_base.specs.declared.operands.Operand.TheVariants.{Read, Local}
use Rattle.aerie_base.specs.expressions.Readings.{cell_of}
use Rattle.effect_cells.specs.declared.effects.CellState.{CellState}
use Rattle.run_data.specs.declared.runs.Instant.{Instant}
use Rattle.profiles.specs.States.{changed_state}

-- an instant touches none of some cells
abbrev pub IsUntouched : (ℕ → Type 0) → Instant → Type 0
IsUntouched On instant = (cell : ℕ) → On cell → changed_state instant.changed cell ≡ None

-- a cell is read by an operand, and by one of some terms
abbrev pub IsReadIn : Operand → ℕ → Type 0
IsReadIn (Read read) cell = cell ≡ cell_of read
IsReadIn (Local slot) cell = ⊥

abbrev pub IsReadBy : List Term → ℕ → Type 0
IsReadBy [] cell = ⊥
IsReadBy (term ∷ rest) cell = IsReadIn term.operand cell ⊎ IsReadBy rest cell

-- the positions of the instants that touch a cell, counted from a position on
abbrev pub touching_from : ℕ → ℕ → List Instant → List ℕ
touching_from cell at [] = []
touching_from cell at (instant ∷ rest) =
    cond (is_some (changed_state instant.changed cell)) (at ∷ touching_from cell (suc at) rest) (touching_from cell (suc at) rest)

abbrev pub touching : List Instant → ℕ → List ℕ
touching instants cell = touching_from cell 0 instants

-- by cell, of so many, the positions of the instants that touch it
pub record AreTouching (instants : List Instant) (cells : ℕ) (by_cell : List (List ℕ)) : Type 0 where
  pub count : length by_cell ≡ cells
  pub each : (cell : ℕ) → cell < cells → slice_get by_cell cell ≡ Some (touching instants cell)

-- ---- one instant more

-- one position more of a cell, if there is such a cell
abbrev pub position_pushed_at : List (List ℕ) → ℕ → ℕ → List (List ℕ)
position_pushed_at [] cell at = []
position_pushed_at (positions ∷ rest) zero at = (positions ++ at ∷ []) ∷ rest
position_pushed_at (positions ∷ rest) (suc cell) at = positions ∷ position_pushed_at rest cell at

-- one position more of each cell that changed
pub record HasNotedPosition (changed : List (ℕ × CellState)) (at : ℕ) (before after : List (List ℕ)) : Type 0 where
  pub count : length after ≡ length before
  pub each : (cell : ℕ) (positions : List ℕ) → slice_get before cell ≡ Some positions →
      slice_get after cell ≡ Some (positions ++ cond (is_some (changed_state changed cell)) (at ∷ []) [])

-- ---- several cells

-- Positions in order, counted from one on, so that no instant before or between or behind them touches one of the cells.
abbrev pub CoversTouches : (ℕ → Type 0) → ℕ → List Instant → List ℕ → Type 0
CoversTouches On at [] [] = Unit {0}
CoversTouches On at [] (position ∷ positions) = ⊥
CoversTouches On at (instant ∷ rest) [] = IsUntouched On instant × CoversTouches On (suc at) rest []
CoversTouches On at (instant ∷ rest) (position ∷ positions) =
    ((position ≡ at) × CoversTouches On (suc at) rest positions) ⊎ ((at < position) × IsUntouched On instant × CoversTouches On (suc at) rest (position ∷ positions))

-- two lists in order as one, in which no number comes twice
abbrev pub merge_with : (List ℕ → List ℕ) → ℕ → List ℕ → List ℕ → List ℕ
merge_with further first all [] = all
merge_with further first all (second ∷ others) =
    cond (nat_lt first second) (first ∷ further (second ∷ others))
    (cond (nat_lt second first) (second ∷ merge_with further first all others) (first ∷ further others))

abbrev pub merge : List ℕ → List ℕ → List ℕ
merge [] others = others
merge (first ∷ rest) others = merge_with (merge rest) first (first ∷ rest) others

-- by cell, the positions that an operand reads, and those that some terms read
abbrev pub positions_if : Option (List ℕ) → List ℕ
positions_if None = []
positions_if (Some positions) = positions

abbrev pub positions_read : List (List ℕ) → Operand → List ℕ
positions_read by_cell (Read read) = positions_if (slice_get by_cell (cell_of read))
positions_read by_cell (Local slot) = []

abbrev pub positions_from : List ℕ → List (List ℕ) → List Term → List ℕ
positions_from positions by_cell [] = positions
positions_from positions by_cell (term ∷ rest) = positions_from (merge positions (positions_read by_cell term.operand)) by_cell rest

-- the positions behind that of the first instant
abbrev pub positions_behind_first : List ℕ → List ℕ
positions_behind_first [] = []
positions_behind_first (position ∷ rest) = cond (nat_eq position 0) rest (position ∷ rest)
