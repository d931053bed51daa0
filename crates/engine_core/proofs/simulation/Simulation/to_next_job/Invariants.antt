use Rattle.engine_core.specs.Simulations.{point_in}
use Rattle.engine_core.specs.EnginePoints.{point_weight}
use Rattle.engine_core.proofs.Transitions.{IsLed}
use Rattle.engine_core.proofs.simulation.Simulation.to_next_job.Given as goal

abbrev pub invariant-loop-self : goal.invariant-loop-self
invariant-loop-self l = IsLed l.model l.fn.self l.self

abbrev pub decreases-loop-self : goal.decreases-loop-self
decreases-loop-self l = point_weight l.fn.self.request.plan l.fn.self.request.bound (point_in l.self)
