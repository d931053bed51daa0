-- An item is smaller than its tree, and its numbers with those behind it are within the tree's.
use Rattle.std.proofs.Common.{arith, ◌<◌, ◌≡◌}
use Rattle.effect_cells.proofs.Totals.{part_fits, part_smaller}
use Rattle.effect_cells.specs.declared.trees.Part.{size-Part}
use Rattle.effect_cells.specs.declared.trees.Tree.{size-Tree}
use Rattle.effect_cells.proofs.worths.+worth.Goals as goal

pub tree_worth-part_before-rest-requires : goal.tree_worth-part_before-rest-requires
tree_worth-part_before-rest-requires t c = (
  (let s : size-Part c.index-parts-left.result < size-Tree c.args.tree.now = part_smaller c.args.tree.now c.as_slice-parts.result.now _ c.index-parts-left.result c.as_slice-parts.ensures (omega (arith, c.loop-left.invariant.within)) c.index-parts-left.is in
      let d : size-Tree c.args.tree.now ≡ t = c.decreases in rw (← d) s),
  omega (arith, part_fits c.args.tree.now c.as_slice-parts.result.now c.loop-left.left c.index-parts-left.result c.as_slice-parts.ensures (omega arith) c.loop-left.invariant.within c.index-parts-left.is),
)
