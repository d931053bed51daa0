use Rattle.std.proofs.Common.{take}
use Rattle.profiles.specs.States.{RiseFrom}
use Rattle.profiles.specs.Touches.{HasNotedPosition}
use Rattle.profiles.proofs.touches.note_instant.Given as goal

-- the position is noted at the cells before this one
abbrev pub invariant-loop-entry : goal.invariant-loop-entry
invariant-loop-entry l = RiseFrom 0 l.changed → HasNotedPosition (take l.entry-index l.changed) l.at l.initial.by_cell.items l.by_cell.items
