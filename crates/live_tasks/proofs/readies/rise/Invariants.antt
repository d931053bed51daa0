use Rattle.std.specs.List.{AllAdjacentBelow}
use Rattle.live_tasks.proofs.OrderedReadies.{Before}
use Rattle.live_tasks.proofs.readies.rise.Given as goal

abbrev pub invariant-loop-at : goal.invariant-loop-at
invariant-loop-at l = AllAdjacentBelow (Before l.slots.slots) l.numbers l.at
