use Rattle.std.proofs.Common.{◌≡◌, ◌+◌, ◌*◌, ◌≤◌, length, take, drop}
use Rattle.run_data.specs.Frames.{room_of}
use Rattle.run_data.specs.laws.Trees.{parts_by}
use Rattle.engine_core.specs.BatchTrees.{parts_below, children_among, AreGathered}
use Rattle.engine_core.proofs.batches.gathering.+gather.Given as goal

-- a child's path has room for one number less
abbrev pub decreases-gather_task : goal.decreases-gather_task
decreases-gather_task l = 4 * room_of l.frame.now.path + 3

abbrev pub decreases-gather_items : goal.decreases-gather_items
decreases-gather_items l = 4 * room_of l.path.now + 2

abbrev pub decreases-gather_item : goal.decreases-gather_item
decreases-gather_item l = 4 * room_of l.path.now + 1

abbrev pub decreases-gather_child : goal.decreases-gather_child
decreases-gather_child l = 4 * room_of l.path.now

-- the items from `left` on are gathered, and the next child has the number behind those of the others
abbrev pub invariant-gather_items-loop-left : goal.invariant-gather_items-loop-left
invariant-gather_items-loop-left l = record {
  within : l.left ≤ length l.items;
  next : l.next ≡ l.number + children_among (take l.left l.items);
  gathered : AreGathered l.cells (drop l.left (parts_by (parts_below l.frames (room_of l.path)) l.path l.number l.items)) l.initial.gathering l.gathering;
}

abbrev pub decreases-gather_items-loop-left : goal.decreases-gather_items-loop-left
decreases-gather_items-loop-left l = l.left
