use Rattle.std.proofs.Common.{◌≡◌}
use Rattle.resimulate.proofs.marks.Marks.move_late.Given as goal

-- both are of the same simulation as before
abbrev pub invariant-loop-bookmark : goal.invariant-loop-bookmark
invariant-loop-bookmark l = record { mine : l.self ≡ l.initial.self; others : l.others ≡ l.initial.others }
