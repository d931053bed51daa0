use Rattle.std.proofs.Common.{◌≡◌, IfSome}
use Rattle.engine_core.specs.BatchGenerations.{Ran}
use Rattle.engine_core.specs.EnginePoints.{point_weight}
use Rattle.resimulate.specs.Bookmarks.{IsMarked}
use Rattle.resimulate.proofs.Looping.{IsBeside}
use Rattle.resimulate.proofs.walk.resimulate_sharing.Given as goal

-- the engine and its bookmarks are of the plan, those set apart and the cursor are of the old run, and what was run so far is counted
abbrev pub invariant-loop-run : goal.invariant-loop-run
invariant-loop-run g l = record {
  beside : IsBeside l.model l.plan l.bound l.old.run (g.S.Stepper.records l.fn.stepper) l.fn.steps l.fn.looks l.engine l.steps l.looks;
  marks : IsMarked l.model l.plan l.bound l.marks;
  late : IfSome l.late (IsMarked l.model l.old.run.plan l.old.run.bound);
  cursor : l.cursor.instants.now ≡ l.old.run.instants;
  ran :
      Ran (g.S.Stepper.is_of l.fn.stepper) (g.S.Stepper.is_of l.stepper) (g.S.Stepper.records l.fn.stepper) (g.S.Stepper.records l.stepper)
      (g.S.Stepper.address l.fn.stepper) (g.S.Stepper.address l.stepper) (g.S.Stepper.opened l.fn.stepper) l.fn.steps l.fn.looks (g.S.Stepper.opened l.stepper) l.steps l.looks;
}

abbrev pub decreases-loop-run : goal.decreases-loop-run
decreases-loop-run g l = point_weight l.engine.plan l.engine.bound l.engine.point
