use Rattle.std.proofs.Common.{◌≡◌, take}
use Rattle.aerie_base.proofs.statements.+same.Given as goal

-- the statements passed are the same
abbrev pub invariant-same_block-loop-at : goal.invariant-same_block-loop-at
invariant-same_block-loop-at l = take l.at l.block ≡ take l.at l.other
