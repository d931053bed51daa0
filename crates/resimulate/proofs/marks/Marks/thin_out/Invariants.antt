use Rattle.std.proofs.Common.{◌≡◌}
use Rattle.resimulate.proofs.marks.Marks.thin_out.Given as goal

-- they are of the same simulation
abbrev pub invariant-loop-at : goal.invariant-loop-at
invariant-loop-at l = l.self ≡ l.initial.self
