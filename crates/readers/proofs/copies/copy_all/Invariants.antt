use Rattle.std.proofs.Common.{◌≡◌, take}
use Rattle.readers.proofs.copies.copy_all.Given as goal

-- so many copies were made as parts were passed, each equal
abbrev pub invariant-loop-part : goal.invariant-loop-part
invariant-loop-part g l = l.copies ≡ take l.part-index l.part-items
