use Rattle.live_tasks.proofs.FrameOrigins.{HasFound}
use Rattle.live_tasks.proofs.batch_origins.put_origins.Given as goal

abbrev pub invariant-loop-place : goal.invariant-loop-place
invariant-loop-place l = HasFound l.slots.slots l.readies l.frames l.place l.next l.makers l.origins.items
