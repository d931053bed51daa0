-- What may be put on the view that a child sees: the effects that its maker emitted before it.
use Rattle.std.specs.Prelude.{◌<◌, List, [], ◌∷◌, length, slice_get}
use Rattle.effect_cells.specs.declared.effects.CellState.{CellState}
use Rattle.effect_cells.specs.Cells.{IsSmallOn}
use Rattle.run_data.specs.StepStates.{after_item}
use Rattle.run_data.specs.declared.frames.Item.{Item}
use Rattle.run_data.specs.declared.frames.Item.TheVariants as item

-- an effect is on one of the cells and leaves its numbers below 2^120 in magnitude
abbrev pub CanEmit : List CellState → Item → Type 0
CanEmit view (item.Emit cell effect) = (cell < length view) × IsSmallOn (slice_get view cell) effect
CanEmit view (item.Child kind arguments) = Unit {0}

-- the same of items one after another
abbrev pub CanEmitAll : List CellState → List Item → Type 0
CanEmitAll view [] = Unit {0}
CanEmitAll view (item ∷ rest) = CanEmit view item × CanEmitAll (after_item view item) rest
