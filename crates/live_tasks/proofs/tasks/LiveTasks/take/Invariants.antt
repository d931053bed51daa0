use Rattle.std.proofs.Common.{◌≡◌}
use Rattle.live_tasks.specs.ListedSlots.{KeepsAll, KeepsWaits}
use Rattle.live_tasks.specs.Endings.{HasTakenUpTo}
use Rattle.live_tasks.proofs.tasks.LiveTasks.take.Given as goal

abbrev pub invariant-loop-place : goal.invariant-loop-place
invariant-loop-place l =
    HasTakenUpTo l.now l.fn.self.tables.slots.slots l.frames l.place l.numbers.items l.self.tables.slots.slots
    × (l.self.followers ≡ l.fn.self.followers)
    × KeepsAll l.fn.self.tables l.self.tables
    × KeepsWaits l.fn.self.tables l.self.tables
