use Rattle.engine_core.proofs.SimulationBatches.{spent_there}
use Rattle.engine_core.proofs.simulation.Simulation.spent.Goals as goal

pub returns : goal.returns
returns c = spent_there c.args.self.now c.requires
