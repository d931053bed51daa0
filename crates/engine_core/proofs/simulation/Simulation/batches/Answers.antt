use Rattle.std.proofs.Common.{◌∙◌}
use Rattle.engine_core.proofs.SimulationBatches.{batches_there}
use Rattle.engine_core.proofs.simulation.Simulation.batches.Goals as goal

pub returns : goal.returns
returns c = c.as_slice.ensures ∙ batches_there c.args.self.now c.requires
