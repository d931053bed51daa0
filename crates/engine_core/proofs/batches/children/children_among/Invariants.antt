use Rattle.std.proofs.Common.{◌≡◌, ◌≤◌, ◌+◌, drop}
use Rattle.engine_core.specs.BatchTrees.{children_among}
use Rattle.engine_core.proofs.batches.children.children_among.Given as goal

-- those so far and those of the items that are left are all
abbrev pub invariant-loop-item : goal.invariant-loop-item
invariant-loop-item l = record {
  whole : l.count + children_among (drop l.item-index l.items) ≡ children_among l.items;
  few : l.count ≤ l.item-index;
}
