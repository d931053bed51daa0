use Rattle.std.proofs.Common.{◌≡◌, drop}
use Rattle.scheduler.specs.Running.{OnlyRanPlans}
use Rattle.scheduler.specs.InProgram.{first_accepted_for}
use Rattle.scheduler.specs.Trials.{found_behind}
use Rattle.scheduler.proofs.searching.first_accepted.Given as goal

-- what is found among all candidates is found among those that are left, behind those that were tried
abbrev pub invariant-loop-time : goal.invariant-loop-time
invariant-loop-time g l = record {
  found :
      found_behind l.last (first_accepted_for (g.M.Simulator.bound l.fn.simulator) l.request l.gap l.plan (drop l.time-index l.times) l.left)
      ≡ first_accepted_for (g.M.Simulator.bound l.fn.simulator) l.request l.gap l.plan l.times l.fn.left;
  ran :
      OnlyRanPlans g.M.Simulator.model g.M.Simulator.bound g.M.Simulator.address (l.fn.simulator, l.fn.steps, l.fn.looks)
      (l.simulator, l.steps, l.looks);
}
