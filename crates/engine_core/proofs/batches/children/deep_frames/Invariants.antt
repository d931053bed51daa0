use Rattle.std.proofs.Common.{◌≡◌, ◌++◌, drop}
use Rattle.engine_core.specs.BatchDues.{deep_children}
use Rattle.engine_core.proofs.batches.children.deep_frames.Given as goal

-- the frames so far and those of the children that are left are those of all children
abbrev pub invariant-loop-item : goal.invariant-loop-item
invariant-loop-item l = l.deep.items ++ deep_children l.model l.maker (drop l.item-index l.items) ≡ deep_children l.model l.maker l.items
