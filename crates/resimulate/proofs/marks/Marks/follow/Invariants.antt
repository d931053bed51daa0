use Rattle.std.proofs.Common.{◌≡◌}
use Rattle.resimulate.proofs.marks.Marks.follow.Given as goal

-- they are of the same simulations
abbrev pub invariant-loop-bookmark : goal.invariant-loop-bookmark
invariant-loop-bookmark l = record { mine : l.self ≡ l.initial.self; late : l.late ≡ l.initial.late }
