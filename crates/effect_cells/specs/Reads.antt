-- What a read of a cell has.
use Rattle.std.specs.Prelude.{◌≡◌, pos, true, List, [], ◌∷◌, Option, Some, None, Ok, Err, slice_get, refl}
use Rattle.aerie_base.specs.expressions.Arithmetic.{ValueOrFault, value_kind}
use Rattle.aerie_base.specs.expressions.Readings.{cell_of, reading}
use Rattle.aerie_base.specs.declared.faults.Fault.TheVariants.{Range}
use Rattle.aerie_base.specs.declared.values.Kind.{Kind}
use Rattle.aerie_base.specs.declared.values.Kind.TheVariants as kind
use Rattle.aerie_base.specs.declared.values.Value.{Value}
use Rattle.aerie_base.specs.declared.values.Value.TheVariants.{Int, Truth}
use Rattle.aerie_base.specs.declared.operands.CellRead.{CellRead}
use Rattle.aerie_base.specs.declared.operands.CellRead.TheVariants as read
use Rattle.effect_cells.specs.declared.effects.CellState.{CellState}
use Rattle.effect_cells.specs.declared.effects.CellState.TheVariants.{Counter, Register, Volume}

-- what a read has of a state of its kind; a number may be out of its range. A read of another kind than its cell, which
-- never comes, has 0.
abbrev pub state_value : CellRead → Option CellState → Value
state_value (read.Counter cell) (Some (Counter number)) = Int number
state_value (read.Register cell) (Some (Register value conflicted)) = value
state_value (read.Conflicted cell) (Some (Register value conflicted)) = Truth conflicted
state_value (read.Volume cell) (Some (Volume volume rate)) = Int volume
state_value (read.Rate cell) (Some (Volume volume rate)) = Int rate
state_value _ _ = Int (pos 0)

-- the value that a read has on cells
abbrev pub value_on : List CellState → CellRead → Value
value_on cells read = state_value read (slice_get cells (cell_of read))

-- the type of that value, where the cell is one of the cells and of the kind of the read
abbrev pub state_kind : CellRead → Option CellState → Option Kind
state_kind (read.Counter cell) (Some (Counter number)) = Some kind.Int
state_kind (read.Register cell) (Some (Register value conflicted)) = Some (value_kind value)
state_kind (read.Conflicted cell) (Some (Register value conflicted)) = Some kind.Truth
state_kind (read.Volume cell) (Some (Volume volume rate)) = Some kind.Int
state_kind (read.Rate cell) (Some (Volume volume rate)) = Some kind.Int
state_kind _ _ = None

abbrev pub kind_on : List CellState → CellRead → Option Kind
kind_on cells read = state_kind read (slice_get cells (cell_of read))

-- what a read gives on cells: the value that it has, and Range where that is a number out of its range
abbrev pub outcome_on : List CellState → CellRead → ValueOrFault
outcome_on cells read = reading read (value_on cells read)

-- ---- worked cases

abbrev pub a_rate_too_high : List CellState
a_rate_too_high = Register (Int (pos 7)) true ∷ Volume (pos 5) (pos 1_000_000_000_001) ∷ []

pub the_value_of_a_register : outcome_on a_rate_too_high (read.Register 0) ≡ Ok (Int (pos 7))
the_value_of_a_register = refl

pub the_flag_of_a_register : outcome_on a_rate_too_high (read.Conflicted 0) ≡ Ok (Truth true)
the_flag_of_a_register = refl

pub the_volume : outcome_on a_rate_too_high (read.Volume 1) ≡ Ok (Int (pos 5))
the_volume = refl

pub a_rate_out_of_range : outcome_on a_rate_too_high (read.Rate 1) ≡ Err Range
a_rate_out_of_range = refl

pub no_counter_there : kind_on a_rate_too_high (read.Counter 0) ≡ None
no_counter_there = refl
