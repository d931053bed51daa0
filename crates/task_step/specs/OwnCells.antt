-- The cells as a step sees them, and how far their numbers may come.
use Rattle.std.specs.Prelude.{◌≡◌, ℕ, ◌+◌, ◌*◌, ◌^◌, ◌≤◌, List, Bool, length}
use Rattle.effect_cells.specs.declared.effects.CellState.{CellState}
use Rattle.run_data.specs.declared.frames.Item.{Item}
use Rattle.run_data.specs.Magnitudes.{AreWithin}
use Rattle.run_data.specs.StepStates.{after_items}

-- how far a cell's numbers may come from those of a job's view by so many effects
abbrev pub reach : ℕ → ℕ
reach items = 2 ^ 100 + items * 1_000_000_000_000_000_000

-- what a step may cost at most, and so the most items that it has
abbrev pub most_items : ℕ
most_items = 100_000_000

-- The cells that are seen are those of the view with the effects of the items applied, each cell has a flag, and numbers
-- and sizes are within their bounds.
pub record IsSound (view cells : List CellState) (items : List Item) (read_flags : List Bool) : Type 0 where
  pub shown : cells ≡ after_items view items
  pub flags : length read_flags ≡ length view
  pub within : AreWithin (reach (length items)) cells
  pub few_items : length items ≤ most_items
  pub few_cells : length view ≤ 256
