-- A step that sees its own effects applied one after another sees what a batch would commit of them.
use Rattle.std.specs.Prelude.{◌≡◌, true, List, [], ◌∷◌}
use Rattle.effect_cells.specs.declared.effects.CellState.{CellState}
use Rattle.effect_cells.specs.declared.trees.Part.{Part, Emit}
use Rattle.effect_cells.specs.declared.trees.Tree.{Tree}
use Rattle.effect_cells.specs.Cells.{committed_cells, fits_cells}
use Rattle.run_data.specs.declared.frames.Item.{Item}
use Rattle.run_data.specs.declared.frames.Item.TheVariants as item
use Rattle.run_data.specs.StepStates.{after_items}

-- a step's own effects in order, its children left out
abbrev pub own_parts : List Item → List Part
own_parts [] = []
own_parts (item.Emit cell effect ∷ rest) = Emit cell effect ∷ own_parts rest
own_parts (item.Child kind arguments ∷ rest) = own_parts rest

abbrev pub own_effects : List Item → Tree
own_effects items = record { items = own_parts items }

-- Where each own effect is on one of the cells and of its kind, the cells with these effects applied one after another
-- are the cells with the worth of all of them applied at once.
abbrev pub EffectsInTurn : Type 0
EffectsInTurn =
    (view : List CellState) (items : List Item) → fits_cells view (own_effects items) ≡ true →
    after_items view items ≡ committed_cells view (own_effects items)
