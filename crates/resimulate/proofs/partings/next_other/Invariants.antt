use Rattle.resimulate.specs.Partings.{SkipsTo}
use Rattle.resimulate.proofs.partings.next_other.Given as goal

-- those before this one are of the range
abbrev pub invariant-loop-at : goal.invariant-loop-at
invariant-loop-at l = SkipsTo l.first l.past l.directives l.from l.at
