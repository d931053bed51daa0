use Rattle.engine_core.proofs.WholeGenerations.{AddsSoFar}
use Rattle.engine_core.proofs.batches.generations.add_all.Given as goal

-- the frames that were passed would stand behind what there was
abbrev pub invariant-loop-at : goal.invariant-loop-at
invariant-loop-at l = AddsSoFar l.model l.jobs l.fn.frames l.made.items l.at l.dues
