-- Which cells a tree has an effect on, as flags by cell and as their numbers.
use Rattle.std.specs.Prelude.{◌≡◌, ℕ, ◌+◌, Bool, true, false, ◌||◌, List, [], ◌∷◌, pos, is_some, if◌then◌else◌, refl}
use Rattle.effect_cells.specs.Worth.{has_effect_on, worth_of}
use Rattle.effect_cells.specs.declared.effects.CellState.{CellState}
use Rattle.effect_cells.specs.declared.effects.Effect.TheVariants.{Add}
use Rattle.effect_cells.specs.declared.trees.Part.{Emit}
use Rattle.effect_cells.specs.declared.trees.Tree.{Tree}

-- flags by cell, and the cells besides that pass a test; the first of them is cell `from`
abbrev pub flagged_from : (ℕ → Bool) → ℕ → List Bool → List Bool
flagged_from test from [] = []
flagged_from test from (flag ∷ rest) = (flag || test from) ∷ flagged_from test (from + 1) rest

-- flags by cell, and the cells besides on which a tree has an effect
abbrev pub also_touched : Tree → List Bool → List Bool
also_touched tree flags = flagged_from (has_effect_on tree) 0 flags

-- the numbers of the cells on which a tree has an effect, in order; the first of the cells has number `cell`
abbrev pub touched_from : ℕ → Tree → List CellState → List ℕ
touched_from cell tree [] = []
touched_from cell tree (state ∷ rest) =
    if is_some (worth_of tree cell) then cell ∷ touched_from (cell + 1) tree rest else touched_from (cell + 1) tree rest

-- ---- worked cases

pub one_cell_is_touched : also_touched (record { items = Emit 1 (Add (pos 5)) ∷ [] }) (true ∷ false ∷ false ∷ []) ≡ true ∷ true ∷ false ∷ []
one_cell_is_touched = refl
