use Rattle.std.proofs.Common.{◌∙◌}
use Rattle.engine_core.proofs.SimulationBatches.{instants_there}
use Rattle.engine_core.proofs.simulation.Simulation.instants.Goals as goal

pub returns : goal.returns
returns c = c.as_slice.ensures ∙ instants_there c.args.self.now
