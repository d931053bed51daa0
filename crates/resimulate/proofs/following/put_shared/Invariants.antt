use Rattle.std.proofs.Common.{◌≡◌, ◌++◌, take}
use Rattle.resimulate.proofs.following.put_shared.Given as goal

-- those so far are behind those that were there
abbrev pub invariant-loop-instant : goal.invariant-loop-instant
invariant-loop-instant l = l.instants ≡ l.initial.instants ++ take l.instant-index l.more
