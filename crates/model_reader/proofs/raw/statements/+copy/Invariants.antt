use Rattle.std.proofs.Common.{◌≡◌, take}
use Rattle.model_reader.proofs.raw.statements.+copy.Given as goal

-- so many copies were made as statements were passed, each equal
abbrev pub invariant-copy_block-loop-stmt : goal.invariant-copy_block-loop-stmt
invariant-copy_block-loop-stmt l = l.copies ≡ take l.stmt-index l.stmt-items
