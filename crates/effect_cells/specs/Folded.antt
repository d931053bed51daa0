-- A file of lemmas: what it proves need not be read to trust a clause.
--
-- The definitions on trees by the tree's own recursion, which the proofs of bodies go by and which does not compute.
use Rattle.std.specs.Prelude.{◌≡◌, ℕ, Bool, Option}
use Rattle.effect_cells.specs.TreeRecursionLaws.{tree_gives_fold}
use Rattle.effect_cells.specs.Worth.{Before, part_worth, tree_worth, part_magnitude, tree_magnitude, part_fits, tree_fits, part_is_on, tree_is_on, worth_of, magnitude_of, all_accepted, has_effect_on}
use Rattle.effect_cells.specs.declared.effects.Effect.{Effect}
use Rattle.effect_cells.specs.declared.trees.Part.{Part, fold-Part}
use Rattle.effect_cells.specs.declared.trees.Tree.{Tree, fold-Tree}

abbrev pub folded_worth : Tree → ℕ → Option Effect
folded_worth = fold-Tree Before (ℕ → Option Effect) part_worth tree_worth

abbrev pub folded_part_worth : Part → Before
folded_part_worth = fold-Part Before (ℕ → Option Effect) part_worth tree_worth

abbrev pub folded_magnitude : Tree → ℕ
folded_magnitude = fold-Tree ℕ ℕ part_magnitude tree_magnitude

abbrev pub folded_part_magnitude : Part → ℕ
folded_part_magnitude = fold-Part ℕ ℕ part_magnitude tree_magnitude

abbrev pub folded_fits : (ℕ → Effect → Bool) → Tree → Bool
folded_fits accepts = fold-Tree Bool Bool (part_fits accepts) tree_fits

abbrev pub folded_part_fits : (ℕ → Effect → Bool) → Part → Bool
folded_part_fits accepts = fold-Part Bool Bool (part_fits accepts) tree_fits

abbrev pub folded_is_on : Tree → ℕ → Bool
folded_is_on tree cell = fold-Tree Bool Bool (part_is_on cell) tree_is_on tree

abbrev pub folded_part_is_on : Part → ℕ → Bool
folded_part_is_on part cell = fold-Part Bool Bool (part_is_on cell) tree_is_on part

-- they are the same
pub worth_is : (tree : Tree) (cell : ℕ) → worth_of tree cell ≡ folded_worth tree cell
worth_is tree cell = λ i. tree_gives_fold Before (ℕ → Option Effect) part_worth tree_worth tree i cell

pub magnitude_is : (tree : Tree) → magnitude_of tree ≡ folded_magnitude tree
magnitude_is = tree_gives_fold ℕ ℕ part_magnitude tree_magnitude

pub fits_is : (accepts : ℕ → Effect → Bool) (tree : Tree) → all_accepted accepts tree ≡ folded_fits accepts tree
fits_is accepts = tree_gives_fold Bool Bool (part_fits accepts) tree_fits

pub is_on_is : (tree : Tree) (cell : ℕ) → has_effect_on tree cell ≡ folded_is_on tree cell
is_on_is tree cell = tree_gives_fold Bool Bool (part_is_on cell) tree_is_on tree
