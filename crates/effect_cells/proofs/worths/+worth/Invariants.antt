use Rattle.std.proofs.Common.{◌≡◌, ◌≤◌, length, drop, map}
use Rattle.std.specs.List.{sum}
use Rattle.effect_cells.specs.Worth.{items_worth, magnitude_if_any}
use Rattle.effect_cells.specs.Folded.{folded_part_worth, folded_part_magnitude}
use Rattle.effect_cells.proofs.worths.+worth.Given as goal

-- the items from `left` on are worth the rest
abbrev pub invariant-tree_worth-loop-left : goal.invariant-tree_worth-loop-left
invariant-tree_worth-loop-left l = record {
  within : l.left ≤ length l.parts;
  worth : l.rest ≡ items_worth (map folded_part_worth (drop l.left l.parts)) l.cell;
  small : magnitude_if_any l.rest ≤ sum (map folded_part_magnitude (drop l.left l.parts));
}

abbrev pub decreases-tree_worth-loop-left : goal.decreases-tree_worth-loop-left
decreases-tree_worth-loop-left l = l.left

abbrev pub decreases-part_before : goal.decreases-part_before
decreases-part_before l = goal.size-part_before l

abbrev pub decreases-tree_worth : goal.decreases-tree_worth
decreases-tree_worth l = goal.size-tree_worth l
