use Rattle.std.proofs.Common.{take}
use Rattle.resimulate.specs.LastChanges.{ChangeAtTime}
use Rattle.resimulate.proofs.cells.note_changed.Given as goal

-- the cells before this one are noted
abbrev pub invariant-loop-one : goal.invariant-loop-one
invariant-loop-one l = ChangeAtTime l.time (take l.one-index l.changed) l.initial.last.items l.last.items
