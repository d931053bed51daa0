use Rattle.engine_core.specs.BatchGenerations.{Ran}
use Rattle.engine_core.specs.Simulations.{point_in, engine_state_of, IsBeforeBatch}
use Rattle.engine_core.proofs.CountedRuns.{IsCounted}
use Rattle.engine_core.specs.EnginePoints.{point_weight}
use Rattle.engine_core.proofs.simulating.simulate.Given as goal

-- the simulation is of the plan, and what was run so far is counted
abbrev pub invariant-loop-alloc : goal.invariant-loop-alloc
invariant-loop-alloc g l = record {
  before : IsBeforeBatch l.model l.jobs l.simulation;
  counted :
      IsCounted l.model l.plan l.bound (g.S.Stepper.records l.fn.stepper) l.fn.steps l.fn.looks (engine_state_of l.model l.simulation) l.steps l.looks;
  ran :
      Ran (g.S.Stepper.is_of l.fn.stepper) (g.S.Stepper.is_of l.stepper) (g.S.Stepper.records l.fn.stepper) (g.S.Stepper.records l.stepper)
      (g.S.Stepper.address l.fn.stepper) (g.S.Stepper.address l.stepper) (g.S.Stepper.opened l.fn.stepper) l.fn.steps l.fn.looks (g.S.Stepper.opened l.stepper) l.steps l.looks;
}

abbrev pub decreases-loop-alloc : goal.decreases-loop-alloc
decreases-loop-alloc g l = point_weight l.simulation.request.plan l.simulation.request.bound (point_in l.simulation)
