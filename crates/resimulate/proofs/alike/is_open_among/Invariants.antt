use Rattle.resimulate.specs.Likeness.{NotOpenAt}
use Rattle.resimulate.proofs.Likenesses.{EachBefore}
use Rattle.resimulate.proofs.alike.is_open_among.Given as goal

-- none is open at the indices before
abbrev pub invariant-loop-at : goal.invariant-loop-at
invariant-loop-at l = EachBefore l.at (λ k. NotOpenAt l.traces.entries k l.roots.keys)
