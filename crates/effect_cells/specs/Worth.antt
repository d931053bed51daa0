-- What a tree of effects comes to on one cell.
use Rattle.std.specs.List.{list_all, list_any, sum}
use Rattle.std.specs.Prelude.{ℕ, ◌+ℤ◌, ◌+◌, List, [], ◌∷◌, Bool, Option, Some, None, if◌then◌else◌, nat_eq}
use Rattle.std.specs.Int.RustNames.{unsigned_abs}
use Rattle.effect_cells.specs.Changes.{change_in_turn, change_beside}
use Rattle.effect_cells.specs.declared.effects.Effect.{Effect}
use Rattle.effect_cells.specs.declared.effects.Effect.TheVariants.{Add, Register, Flow}
use Rattle.effect_cells.specs.declared.trees.Part.TheOpen.{Part-F, Tree-F}
use Rattle.effect_cells.specs.declared.trees.Tree.{Tree}
use Rattle.effect_cells.specs.TreeRecursion.{tree_gives}

-- one effect and then another on one cell; effects of two kinds are never on one cell, and the first stands for both
abbrev pub effect_in_turn : Effect → Effect → Effect
effect_in_turn (Add a) (Add b) = Add (a +ℤ b)
effect_in_turn (Register a) (Register b) = Register (change_in_turn a b)
effect_in_turn (Flow v r) (Flow w s) = Flow (v +ℤ w) (r +ℤ s)
effect_in_turn first _ = first

-- two effects concurrently on one cell
abbrev pub effect_beside : Effect → Effect → Effect
effect_beside (Add a) (Add b) = Add (a +ℤ b)
effect_beside (Register a) (Register b) = Register (change_beside a b)
effect_beside (Flow v r) (Flow w s) = Flow (v +ℤ w) (r +ℤ s)
effect_beside left _ = left

-- an effect and then what follows it, which may have none on the cell
abbrev pub in_front : Effect → Option Effect → Option Effect
in_front first None = Some first
in_front first (Some rest) = Some (effect_in_turn first rest)

-- what a child has and what stands beside it; either may have none on the cell
abbrev pub beside : Option Effect → Option Effect → Option Effect
beside None other = other
beside (Some left) None = Some left
beside (Some left) (Some right) = Some (effect_beside left right)

-- what an item makes of what the items behind it are worth, on a cell
abbrev pub Before : Type 0
Before = ℕ → Option Effect → Option Effect

-- an effect on the cell comes before the rest, one on another cell is nothing to it, and a child stands beside the rest
abbrev pub part_worth : Part-F Before (ℕ → Option Effect) → Before
part_worth (Part-F.Emit on effect) cell rest = if nat_eq on cell then in_front effect rest else rest
part_worth (Part-F.Child child) cell rest = beside (child cell) rest

-- no item has no effect
abbrev pub items_worth : List Before → ℕ → Option Effect
items_worth [] cell = None
items_worth (item ∷ rest) cell = item cell (items_worth rest cell)

abbrev pub tree_worth : Tree-F Before (ℕ → Option Effect) → ℕ → Option Effect
tree_worth tree = items_worth tree.items

-- the effect of a tree on a cell, or none exactly where no effect in it is on that cell
abbrev pub worth_of : Tree → ℕ → Option Effect
worth_of = tree_gives Before (ℕ → Option Effect) part_worth tree_worth

-- ---- whether a tree has an effect on a cell

abbrev pub part_is_on : ℕ → Part-F Bool Bool → Bool
part_is_on cell (Part-F.Emit on effect) = nat_eq on cell
part_is_on cell (Part-F.Child child) = child

abbrev pub tree_is_on : Tree-F Bool Bool → Bool
tree_is_on tree = list_any (λ flag. flag) tree.items

-- whether some effect in a tree is on the cell
abbrev pub has_effect_on : Tree → ℕ → Bool
has_effect_on tree cell = tree_gives Bool Bool (part_is_on cell) tree_is_on tree

-- ---- the magnitudes of all numbers in a tree, added up

abbrev pub magnitude : Effect → ℕ
magnitude (Add a) = unsigned_abs a
magnitude (Register change) = 0
magnitude (Flow v r) = unsigned_abs v + unsigned_abs r

abbrev pub magnitude_if_any : Option Effect → ℕ
magnitude_if_any None = 0
magnitude_if_any (Some effect) = magnitude effect

abbrev pub part_magnitude : Part-F ℕ ℕ → ℕ
part_magnitude (Part-F.Emit on effect) = magnitude effect
part_magnitude (Part-F.Child child) = child

abbrev pub tree_magnitude : Tree-F ℕ ℕ → ℕ
tree_magnitude tree = sum tree.items

abbrev pub magnitude_of : Tree → ℕ
magnitude_of = tree_gives ℕ ℕ part_magnitude tree_magnitude

-- ---- trees over cells

abbrev pub part_fits : (ℕ → Effect → Bool) → Part-F Bool Bool → Bool
part_fits accepts (Part-F.Emit on effect) = accepts on effect
part_fits accepts (Part-F.Child child) = child

abbrev pub tree_fits : Tree-F Bool Bool → Bool
tree_fits tree = list_all (λ flag. flag) tree.items

-- whether each effect in a tree is accepted on its cell
abbrev pub all_accepted : (ℕ → Effect → Bool) → Tree → Bool
all_accepted accepts = tree_gives Bool Bool (part_fits accepts) tree_fits
