-- How far the numbers of cells and of effects are from 0.
use Rattle.std.specs.Prelude.{◌≡◌, ℕ, ◌≤◌, List, Some, slice_get, max}
use Rattle.std.specs.Int.RustNames.{unsigned_abs}
use Rattle.effect_cells.specs.declared.effects.CellState.{CellState}
use Rattle.effect_cells.specs.declared.effects.CellState.TheVariants as state
use Rattle.effect_cells.specs.declared.effects.Effect.{Effect}
use Rattle.effect_cells.specs.declared.effects.Effect.TheVariants.{Add, Register, Flow}

-- how far a cell's numbers are from 0
abbrev pub state_magnitude : CellState → ℕ
state_magnitude (state.Counter number) = unsigned_abs number
state_magnitude (state.Register value conflicted) = 0
state_magnitude (state.Volume volume rate) = max (unsigned_abs volume) (unsigned_abs rate)

-- how far the numbers of an effect are from 0
abbrev pub effect_magnitude : Effect → ℕ
effect_magnitude (Add number) = unsigned_abs number
effect_magnitude (Register change) = 0
effect_magnitude (Flow volume rate) = max (unsigned_abs volume) (unsigned_abs rate)

-- no number of the cells is further from 0 than this
abbrev pub AreWithin : ℕ → List CellState → Type 0
AreWithin most cells = (cell : ℕ) (state : CellState) → slice_get cells cell ≡ Some state → state_magnitude state ≤ most
