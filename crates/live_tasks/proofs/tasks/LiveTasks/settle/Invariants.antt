use Rattle.std.proofs.Common.{◌≡◌, ◌+◌, ◌∷◌, ℕ, List}
use Rattle.slab.specs.Slab.{slab_len}
use Rattle.run_data.specs.TaskFrames.{Frame}
use Rattle.run_data.specs.Tasks.{Table}
use Rattle.live_tasks.specs.Followers.{AreFollowers}
use Rattle.live_tasks.specs.Endings.{IsEnding, with_next}
use Rattle.live_tasks.proofs.Settling.{next_rank}
use Rattle.live_tasks.specs.ListedSlots.{KeepsExactly, KeepsWaits}
use Rattle.live_tasks.proofs.tasks.LiveTasks.settle.Given as goal

abbrev pub invariant-loop-next : goal.invariant-loop-next
invariant-loop-next l =
    AreFollowers l.self.tables.slots.slots l.self.followers.items
    × (l.self.followers ≡ l.initial.self.followers)
    × KeepsExactly l.initial.self.tables l.self.tables
    × ((frames : List Frame) (todo : List ℕ) (whole : Table) → IsEnding l.now whole frames (l.number ∷ todo) l.initial.self.tables.slots.slots → IsEnding l.now whole frames (with_next l.next todo) l.self.tables.slots.slots)
    × KeepsWaits l.initial.self.tables l.self.tables

abbrev pub decreases-loop-next : goal.decreases-loop-next
decreases-loop-next l = slab_len l.self.tables.slots + next_rank l.next
