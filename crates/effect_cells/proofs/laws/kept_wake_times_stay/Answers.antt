use Rattle.effect_cells.proofs.KeptWakes.{stays_while_time_passes, stays_through_batches}
use Rattle.effect_cells.proofs.laws.kept_wake_times_stay.Goals as goal

pub returns-clause-passing : goal.returns-clause-passing
returns-clause-passing c = stays_while_time_passes

pub returns-clause-batches : goal.returns-clause-batches
returns-clause-batches c = stays_through_batches
