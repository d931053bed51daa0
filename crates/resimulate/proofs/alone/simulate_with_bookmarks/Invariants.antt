use Rattle.engine_core.specs.BatchGenerations.{Ran}
use Rattle.engine_core.specs.EnginePoints.{point_weight}
use Rattle.resimulate.specs.Bookmarks.{IsMarked}
use Rattle.resimulate.proofs.NothingOld.{no_instants}
use Rattle.resimulate.proofs.Looping.{IsBeside}
use Rattle.resimulate.proofs.alone.simulate_with_bookmarks.Given as goal

-- the engine and its bookmarks are of the plan, and what was run so far is counted
abbrev pub invariant-loop-alloc : goal.invariant-loop-alloc
invariant-loop-alloc g l = record {
  alone : IsBeside l.model l.plan l.bound (no_instants l.plan) (g.S.Stepper.records l.fn.stepper) l.fn.steps l.fn.looks l.engine l.steps l.looks;
  marks : IsMarked l.model l.plan l.bound l.marks;
  ran :
      Ran (g.S.Stepper.is_of l.fn.stepper) (g.S.Stepper.is_of l.stepper) (g.S.Stepper.records l.fn.stepper) (g.S.Stepper.records l.stepper)
      (g.S.Stepper.address l.fn.stepper) (g.S.Stepper.address l.stepper) (g.S.Stepper.opened l.fn.stepper) l.fn.steps l.fn.looks (g.S.Stepper.opened l.stepper) l.steps l.looks;
}

abbrev pub decreases-loop-alloc : goal.decreases-loop-alloc
decreases-loop-alloc g l = point_weight l.engine.plan l.engine.bound l.engine.point
