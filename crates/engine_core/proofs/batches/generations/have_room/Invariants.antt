use Rattle.engine_core.proofs.WholeGenerations.{HaveRoomUpTo}
use Rattle.engine_core.proofs.batches.generations.have_room.Given as goal

-- the jobs that were passed have room
abbrev pub invariant-loop-job : goal.invariant-loop-job
invariant-loop-job l = HaveRoomUpTo l.jobs l.job-index
