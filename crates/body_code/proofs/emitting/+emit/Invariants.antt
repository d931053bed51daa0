use Rattle.std.proofs.Common.{◌≡◌, ◌+◌, ◌*◌, ◌++◌, length, drop}
use Rattle.aerie_base.specs.statements.Places.{block_size}
use Rattle.body_code.specs.FlatCode.{block_code}
use Rattle.body_code.proofs.emitting.+emit.Given as goal

-- the code so far and that of the statements to come are the whole, and so is the room
abbrev pub invariant-emit_block-loop-stmt : goal.invariant-emit_block-loop-stmt
invariant-emit_block-loop-stmt l = record {
  code : l.code.items ++ block_code (drop l.stmt-index l.block) (length l.code.items) ≡ l.initial.code.items ++ block_code l.block (length l.initial.code.items);
  room : length l.code.items + block_size (drop l.stmt-index l.block) ≡ length l.initial.code.items + block_size l.block;
}

-- a block is less deep than its statement, and as deep as the deepest of its own
abbrev pub decreases-emit : goal.decreases-emit
decreases-emit l = 2 * goal.size-emit l

abbrev pub decreases-emit_block : goal.decreases-emit_block
decreases-emit_block l = 2 * goal.size-emit_block l + 1
