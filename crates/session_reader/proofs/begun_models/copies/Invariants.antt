use Rattle.std.proofs.Common.{◌≡◌, take}
use Rattle.session_reader.proofs.begun_models.copies.Given as goal

-- so many copies were made as items were passed, each equal
abbrev pub invariant-loop-item : goal.invariant-loop-item
invariant-loop-item g l = l.copies ≡ take l.item-index l.items
