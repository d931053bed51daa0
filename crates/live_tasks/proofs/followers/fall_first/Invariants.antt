use Rattle.std.proofs.Common.{◌≡◌, drop}
use Rattle.slab.specs.Slab.{slab_len}
use Rattle.live_tasks.specs.ListedSlots.{KeepsExactly, KeepsWaits}
use Rattle.live_tasks.proofs.Coming.{IsComing}
use Rattle.live_tasks.proofs.followers.fall_first.Given as goal

abbrev pub invariant-loop-follower : goal.invariant-loop-follower
invariant-loop-follower l =
    IsComing l.now l.to l.edge l.initial.tables.slots.slots l.tables.slots.slots (drop l.follower-index l.followers)
    × (slab_len l.tables.slots ≡ slab_len l.initial.tables.slots)
    × KeepsExactly l.initial.tables l.tables
    × KeepsWaits l.initial.tables l.tables
