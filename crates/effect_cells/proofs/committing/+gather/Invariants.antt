use Rattle.std.proofs.Common.{◌≤◌, length, drop, map}
use Rattle.std.specs.List.{sum}
use Rattle.effect_cells.specs.Worth.{items_worth}
use Rattle.effect_cells.specs.Folded.{folded_part_worth, folded_part_magnitude}
use Rattle.effect_cells.specs.Gathered.{IsGathered}
use Rattle.effect_cells.proofs.committing.+gather.Given as goal

-- the items from `left` on are gathered
abbrev pub invariant-gather_tree-loop-left : goal.invariant-gather_tree-loop-left
invariant-gather_tree-loop-left l = record {
  within : l.left ≤ length l.parts;
  gathered : IsGathered l.states (λ cell. items_worth (map folded_part_worth (drop l.left l.parts)) cell) (sum (map folded_part_magnitude (drop l.left l.parts))) l.initial.gathering l.gathering;
}

abbrev pub decreases-gather_tree-loop-left : goal.decreases-gather_tree-loop-left
decreases-gather_tree-loop-left l = l.left

abbrev pub decreases-gather_part : goal.decreases-gather_part
decreases-gather_part l = goal.size-gather_part l

abbrev pub decreases-gather_tree : goal.decreases-gather_tree
decreases-gather_tree l = goal.size-gather_tree l
