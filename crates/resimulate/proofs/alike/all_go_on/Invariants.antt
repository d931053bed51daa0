use Rattle.resimulate.specs.Likeness.{GoesOnAt}
use Rattle.resimulate.proofs.Likenesses.{EachBefore}
use Rattle.resimulate.proofs.alike.all_go_on.Given as goal

-- so do those at the indices before
abbrev pub invariant-loop-at : goal.invariant-loop-at
invariant-loop-at l = EachBefore l.at (GoesOnAt l.before.entries l.traces.entries l.others.entries)
