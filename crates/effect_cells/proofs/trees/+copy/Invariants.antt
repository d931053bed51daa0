use Rattle.std.proofs.Common.{◌≡◌, take}
use Rattle.effect_cells.proofs.trees.+copy.Given as goal

-- so many copies were made as items were passed, each equal
abbrev pub invariant-Tree::copy-loop-part : goal.invariant-Tree::copy-loop-part
invariant-Tree::copy-loop-part l = l.items ≡ take l.part-index l.part-items
