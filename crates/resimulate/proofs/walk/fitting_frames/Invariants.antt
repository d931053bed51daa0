use Rattle.resimulate.proofs.EngineBatches.{Decides}
use Rattle.resimulate.proofs.walk.fitting_frames.Given as goal

-- the jobs that are left decide about all of them
abbrev pub invariant-loop-at : goal.invariant-loop-at
invariant-loop-at l = Decides l.engine l.old l.at l.found.items
