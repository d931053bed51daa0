use Rattle.std.proofs.Common.{◌≡◌, ◌-◌, drop, length}
use Rattle.resimulate.proofs.partings.same_behind.Given as goal

-- those behind this one are the same
abbrev pub invariant-loop-back : goal.invariant-loop-back
invariant-loop-back l = drop (length l.directives - l.back) l.directives ≡ drop (length l.others - l.back) l.others
