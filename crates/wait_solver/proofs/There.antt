-- A cell that is read is there and in range.
use Rattle.std.proofs.Common.{◌≡◌, ℕ, zero, suc, ◌+◌, ◌<◌, List, [], ◌∷◌, length, Bool, true, false, Option, Some, None, slice_get, refl}
use Rattle.std.specs.Prelude.{IsTrue, IsSome}
use Rattle.std.proofs.lemmas.Option.{slice_get_within}
use Rattle.aerie_base.specs.declared.values.Kind.{Kind}
use Rattle.aerie_base.specs.declared.operands.CellRead.{CellRead}
use Rattle.aerie_base.specs.declared.operands.CellRead.TheVariants as read
use Rattle.aerie_base.specs.expressions.Readings.{cell_of}
use Rattle.aerie_base.specs.models.Expressions.{is_kind_of}
use Rattle.effect_cells.specs.Cells.{first_out_from, AreInRange}
use Rattle.effect_cells.specs.Reads.{state_kind, kind_on}
use Rattle.effect_cells.specs.States.{is_in_range}
use Rattle.effect_cells.specs.declared.effects.CellState.{CellState}
use Rattle.effect_cells.specs.declared.effects.CellState.TheVariants.{Counter, Register, Volume}

-- where no cell is out of range from one on, each of them is in range
in_range_from : (from : ℕ) (cells : List CellState) (cell : ℕ) (state : CellState) → first_out_from from cells ≡ None → slice_get cells cell ≡ Some state → is_in_range state ≡ true
in_range_from from [] cell state none is = cc
in_range_from from (first ∷ rest) cell state none is = go (is_in_range first) refl cell (λ next later found. in_range_from (from + 1) rest next state later found) is
  where
    go : (v : Bool) → is_in_range first ≡ v → (cell : ℕ) →
        ((next : ℕ) → first_out_from (from + 1) rest ≡ None → slice_get rest next ≡ Some state → is_in_range state ≡ true) →
        slice_get (first ∷ rest) cell ≡ Some state → is_in_range state ≡ true
    go true e zero onward is = let same : first ≡ state = cc in rw (← same) e
    go true e (suc cell) onward is = onward cell (rw e at none) is
    go false e cell onward is = let some : first_out_from from (first ∷ rest) ≡ Some from = rw e refl in cc

pub there_in_range : (cells : List CellState) (cell : ℕ) (state : CellState) → AreInRange cells → slice_get cells cell ≡ Some state → is_in_range state ≡ true
there_in_range cells cell state range is = in_range_from 0 cells cell state range is

nowhere : (read : CellRead) → state_kind read None ≡ None
nowhere (read.Counter cell) = refl
nowhere (read.Register cell) = refl
nowhere (read.Conflicted cell) = refl
nowhere (read.Volume cell) = refl
nowhere (read.Rate cell) = refl

-- a read with a type is of a cell that is there
pub read_there : (cells : List CellState) (read : CellRead) (kind : Kind) → IsTrue (is_kind_of (kind_on cells read) kind) → cell_of read < length cells
read_there cells read kind typed = go (slice_get cells (cell_of read)) refl typed
  where
    go : (found : Option CellState) → slice_get cells (cell_of read) ≡ found → IsTrue (is_kind_of (state_kind read found) kind) → cell_of read < length cells
    go None e typed = let none : state_kind read None ≡ None = nowhere read in absurd (let never = rw none at typed in cc)
    go (Some state) e typed = slice_get_within cells (cell_of read) state e

-- a side of an equality that is a register with a type is of a cell that is there, and a register
pub register_there : (cells : List CellState) (cell : ℕ) → IsSome (kind_on cells (read.Register cell)) → cell < length cells
register_there cells cell typed = go (slice_get cells cell) refl typed
  where
    go : (found : Option CellState) → slice_get cells cell ≡ found → IsSome (state_kind (read.Register cell) found) → cell < length cells
    go None e typed = absurd (cc)
    go (Some state) e typed = slice_get_within cells cell state e

pub state_there : (cells : List CellState) (cell : ℕ) (state : CellState) → slice_get cells cell ≡ Some state → IsSome (kind_on cells (read.Register cell)) → IsSome (state_kind (read.Register 0) (Some state))
state_there cells cell state is typed = go state (rw is at typed)
  where
    go : (state : CellState) → IsSome (state_kind (read.Register cell) (Some state)) → IsSome (state_kind (read.Register 0) (Some state))
    go (Counter number) typed = absurd (cc)
    go (Register value conflicted) typed = refl
    go (Volume volume rate) typed = absurd (cc)
