use Rattle.std.proofs.Common.{◌+◌, ◌-◌, ◌*◌, ◌≤◌, length}
use Rattle.aerie_base.specs.Paths.{child_limit}
use Rattle.run_data.specs.Records.{unmatched}
use Rattle.engine_core.specs.BatchGenerations.{StandsBetween, Ran}
use Rattle.engine_core.proofs.batches.generations.all_frames.Given as goal

-- the batch stands between two generations, and what was run is counted
abbrev pub invariant-loop-iteration : goal.invariant-loop-iteration
invariant-loop-iteration g l = record {
  stands : StandsBetween l.model l.bound l.spent l.jobs (child_limit - l.iteration) l.made.items l.left l.dues;
  pays : l.steps ≤ l.fn.steps + unmatched l.made.items (g.S.Stepper.records l.fn.stepper);
  few_looks : l.looks ≤ l.fn.looks + 2 * length l.made.items;
  ran :
      Ran (g.S.Stepper.is_of l.fn.stepper) (g.S.Stepper.is_of l.stepper) (g.S.Stepper.records l.fn.stepper) (g.S.Stepper.records l.stepper)
      (g.S.Stepper.address l.fn.stepper) (g.S.Stepper.address l.stepper) (g.S.Stepper.opened l.fn.stepper) l.fn.steps l.fn.looks (g.S.Stepper.opened l.stepper) l.steps l.looks;
}
