use Rattle.std.proofs.Common.{◌≤◌, ◌-◌, length}
use Rattle.live_tasks.specs.BatchOrigins.{AreBelow}
use Rattle.live_tasks.proofs.batch_origins.first_from.Given as goal

abbrev pub invariant-loop-at : goal.invariant-loop-at
invariant-loop-at l =
    (l.from ≤ l.at)
    × (l.at ≤ length l.numbers)
    × AreBelow l.slots.slots l.path l.numbers l.from l.at

abbrev pub decreases-loop-at : goal.decreases-loop-at
decreases-loop-at l = length l.numbers - l.at
