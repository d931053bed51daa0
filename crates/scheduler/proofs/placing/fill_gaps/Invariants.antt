use Rattle.std.proofs.Common.{◌≡◌}
use Rattle.scheduler.specs.Running.{OnlyRanPlans}
use Rattle.scheduler.specs.InProgram.{IsKeptOf, goal_filled, most_gaps_left}
use Rattle.scheduler.proofs.placing.fill_gaps.Given as goal

-- the goal comes where it comes from the beginning
abbrev pub invariant-loop-placing : goal.invariant-loop-placing
invariant-loop-placing g l = record {
  filled : goal_filled (g.M.Simulator.bound l.fn.simulator) l.request l.placing ≡ goal_filled (g.M.Simulator.bound l.fn.simulator) l.request l.fn.placing;
  kept : IsKeptOf l.request.model.now (g.M.Simulator.bound l.fn.simulator) l.placing.kept;
  ran :
      OnlyRanPlans g.M.Simulator.model g.M.Simulator.bound g.M.Simulator.address (l.fn.simulator, l.fn.steps, l.fn.looks)
      (l.simulator, l.steps, l.looks);
}

abbrev pub decreases-loop-placing : goal.decreases-loop-placing
decreases-loop-placing g l = most_gaps_left l.placing
