use Rattle.std.proofs.Common.{[]}
use Rattle.profiles.specs.Touches.{AreTouching}
use Rattle.profiles.proofs.touches.untouched.Given as goal

abbrev pub invariant-loop : goal.invariant-loop
invariant-loop l = AreTouching [] l.counter l.by_cell.items
