use Rattle.std.proofs.Common.{◌≡◌, take}
use Rattle.aerie_base.proofs.plain_data.copy_list.Given as goal

-- so many copies were made as items were passed, each equal
abbrev pub invariant-loop-item : goal.invariant-loop-item
invariant-loop-item g l = l.copies ≡ take l.item-index l.item-items
