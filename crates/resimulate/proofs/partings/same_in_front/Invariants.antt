use Rattle.std.proofs.Common.{◌≡◌, take}
use Rattle.resimulate.proofs.partings.same_in_front.Given as goal

-- those before this one are the same
abbrev pub invariant-loop-at : goal.invariant-loop-at
invariant-loop-at l = take l.at l.directives ≡ take l.at l.others
