use Rattle.std.proofs.Common.{subst}
use Rattle.engine_core.specs.BatchGenerations.{HaveRoomForChildren}
use Rattle.engine_core.proofs.batches.generations.add_frames.Goals as goal

pub add_all-requires-clause-room : goal.add_all-requires-clause-room
add_all-requires-clause-room c = subst HaveRoomForChildren c.jobs.ensures (c.have_room.ensures.room c.if-have_room.true)
