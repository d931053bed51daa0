use Rattle.std.proofs.Common.{take}
use Rattle.resimulate.specs.LastChanges.{ChangeInInstants}
use Rattle.resimulate.proofs.cells.note_instants.Given as goal

-- the instants before this one are noted
abbrev pub invariant-loop-instant : goal.invariant-loop-instant
invariant-loop-instant l = ChangeInInstants (take l.instant-index l.instants) l.initial.last.items l.last.items
