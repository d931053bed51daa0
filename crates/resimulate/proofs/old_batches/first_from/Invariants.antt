use Rattle.resimulate.specs.OldBatches.{AreEarly}
use Rattle.resimulate.proofs.old_batches.first_from.Given as goal

-- those before this one are earlier
abbrev pub invariant-loop-at : goal.invariant-loop-at
invariant-loop-at l = AreEarly l.time l.at l.instants
