use Rattle.std.proofs.Common.{◌≡◌, [], drop}
use Rattle.run_data.specs.Tasks.{Table, after_frames}
use Rattle.run_data.specs.laws.BatchFrames.{AreFramesOf}
use Rattle.live_tasks.specs.Slots.{Slots}
use Rattle.live_tasks.specs.Followers.{AreFollowers}
use Rattle.live_tasks.specs.Endings.{AreLive, IsTaking, IsEnding}
use Rattle.live_tasks.specs.ListedSlots.{KeepsExactly, KeepsWaits}
use Rattle.live_tasks.proofs.Batches.{IsStarting}
use Rattle.live_tasks.proofs.tasks.LiveTasks.end_batch.Given as goal

abbrev pub invariant-loop-frame : goal.invariant-loop-frame
invariant-loop-frame l =
    AreFollowers l.self.tables.slots.slots l.self.followers.items
    × (l.self.followers ≡ l.fn.self.followers)
    × KeepsExactly l.fn.self.tables l.self.tables
    × ((table : Table) (first : Slots) → AreLive table first → AreFramesOf table l.frames → IsTaking first l.numbers (after_frames l.now l.frames table) l.fn.self.tables.slots.slots →
    IsStarting l.now (after_frames l.now l.frames table) (drop l.frame-index l.frames) l.numbers l.self.tables.slots.slots)
    × KeepsWaits l.fn.self.tables l.self.tables

abbrev pub invariant-loop-number : goal.invariant-loop-number
invariant-loop-number l =
    AreFollowers l.self.tables.slots.slots l.self.followers.items
    × (l.self.followers ≡ l.fn.self.followers)
    × KeepsExactly l.fn.self.tables l.self.tables
    × ((table : Table) (first : Slots) → AreLive table first → AreFramesOf table l.frames → IsTaking first l.numbers (after_frames l.now l.frames table) l.fn.self.tables.slots.slots →
    IsEnding l.now (after_frames l.now l.frames table) [] (drop l.number-index l.numbers) l.self.tables.slots.slots)
    × KeepsWaits l.fn.self.tables l.self.tables
