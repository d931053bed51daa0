-- A file of lemmas: what it proves need not be read to trust a clause.
--
-- A tree has no worth on a cell exactly where no effect in it is on that cell.
use Rattle.std.specs.List.{list_any}
use Rattle.std.proofs.Common.{◌≡◌, ℕ, Bool, true, false, ◌||◌, List, [], ◌∷◌, map, Option, Some, None, is_some, if◌then◌else◌, nat_eq, refl, ap, ◌∙◌}
use Rattle.effect_cells.specs.Worth.{Before, in_front, beside, part_worth, tree_worth, items_worth, worth_of, part_is_on, tree_is_on, has_effect_on}
use Rattle.effect_cells.specs.TreeRecursion.{part_gives, items_give}
use Rattle.effect_cells.specs.declared.effects.Effect.{Effect}
use Rattle.effect_cells.specs.declared.trees.Part.{Part, Emit, Child', Row_of-Part, end_of-Part, more_of-Part}
use Rattle.effect_cells.specs.declared.trees.Tree.{Tree}

front_is_some : (effect : Effect) (rest : Option Effect) → is_some (in_front effect rest) ≡ true
front_is_some effect None = refl
front_is_some effect (Some other) = refl

emit_is_some : (here : Bool) (effect : Effect) (rest : Option Effect) → is_some (if here then in_front effect rest else rest) ≡ (here || is_some rest)
emit_is_some true effect rest = front_is_some effect rest
emit_is_some false effect rest = refl

beside_is_some : (child rest : Option Effect) → is_some (beside child rest) ≡ (is_some child || is_some rest)
beside_is_some None rest = refl
beside_is_some (Some effect) None = refl
beside_is_some (Some effect) (Some other) = refl

mutual
  part_is_some : (part : Part) (cell : ℕ) (rest : Option Effect) →
      is_some (part_gives Before (ℕ → Option Effect) part_worth tree_worth part cell rest) ≡ (part_gives Bool Bool (part_is_on cell) tree_is_on part || is_some rest)
  part_is_some (Emit on effect) cell rest = emit_is_some (nat_eq on cell) effect rest
  part_is_some (Child' _ items) cell rest =
      beside_is_some (items_worth (items_give Before (ℕ → Option Effect) part_worth tree_worth items) cell) rest
      ∙ ap (λ (some : Bool). some || is_some rest) (row_is_some items cell)

  row_is_some : {m : _} → (row : Row_of-Part m) (cell : ℕ) →
      is_some (items_worth (items_give Before (ℕ → Option Effect) part_worth tree_worth row) cell) ≡ list_any (λ flag. flag) (items_give Bool Bool (part_is_on cell) tree_is_on row)
  row_is_some end_of-Part cell = refl
  row_is_some (more_of-Part part rest) cell =
      part_is_some part cell (items_worth (items_give Before (ℕ → Option Effect) part_worth tree_worth rest) cell)
      ∙ ap (λ (some : Bool). part_gives Bool Bool (part_is_on cell) tree_is_on part || some) (row_is_some rest cell)

items_are_some : (items : List Part) (cell : ℕ) →
    is_some (items_worth (map (part_gives Before (ℕ → Option Effect) part_worth tree_worth) items) cell) ≡ list_any (λ flag. flag) (map (part_gives Bool Bool (part_is_on cell) tree_is_on) items)
items_are_some [] cell = refl
items_are_some (part ∷ rest) cell =
    part_is_some part cell (items_worth (map (part_gives Before (ℕ → Option Effect) part_worth tree_worth) rest) cell)
    ∙ ap (λ (some : Bool). part_gives Bool Bool (part_is_on cell) tree_is_on part || some) (items_are_some rest cell)

pub is_some_where_on : (tree : Tree) (cell : ℕ) → is_some (worth_of tree cell) ≡ has_effect_on tree cell
is_some_where_on tree cell = items_are_some tree.items cell
