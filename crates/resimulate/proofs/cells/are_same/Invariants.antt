use Rattle.resimulate.proofs.CellChanges.{SameTo}
use Rattle.resimulate.proofs.cells.are_same.Given as goal

-- the changes before this one are the same
abbrev pub invariant-loop-at : goal.invariant-loop-at
invariant-loop-at l = SameTo l.at l.last l.others
