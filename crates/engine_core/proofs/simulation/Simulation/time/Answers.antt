use Rattle.engine_core.proofs.SimulationBatches.{time_there}
use Rattle.engine_core.proofs.simulation.Simulation.time.Goals as goal

pub returns : goal.returns
returns c = time_there c.args.self.now c.requires
