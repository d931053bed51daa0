use Rattle.std.proofs.Common.{length, take}
use Rattle.profiles.specs.Touches.{AreTouching}
use Rattle.profiles.proofs.touches.touches.Given as goal

-- the instants before this one are noted
abbrev pub invariant-loop-at : goal.invariant-loop-at
invariant-loop-at l = AreTouching (take l.at l.instants) (length l.model.cells) l.by_cell.items
