use Rattle.std.proofs.Common.{◌≡◌, take}
use Rattle.aerie_base.proofs.plain_data.same_list.Given as goal

-- the items passed are the same
abbrev pub invariant-loop-at : goal.invariant-loop-at
invariant-loop-at g l = take l.at l.items ≡ take l.at l.others
