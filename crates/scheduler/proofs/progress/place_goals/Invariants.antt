use Rattle.std.proofs.Common.{◌≡◌, drop}
use Rattle.scheduler.specs.FreshRuns.{fresh_run}
use Rattle.scheduler.specs.Running.{OnlyRanPlans}
use Rattle.scheduler.specs.Scheduling.{goals_placed, trial_limit}
use Rattle.scheduler.specs.InProgram.{IsKeptOf, placed_behind}
use Rattle.scheduler.proofs.progress.place_goals.Given as goal

-- what is placed for all goals is what is placed so far and what is placed for those that are left
abbrev pub invariant-loop-goal : goal.invariant-loop-goal
invariant-loop-goal g l = record {
  placed :
      placed_behind l.progress.parts
      (goals_placed l.model l.constraints (fresh_run l.model (g.M.Simulator.bound l.fn.simulator)) (drop l.goal-index l.goals) l.progress.kept.run.plan l.progress.left)
      ≡ goals_placed l.model l.constraints (fresh_run l.model (g.M.Simulator.bound l.fn.simulator)) l.goals l.fn.kept.run.plan trial_limit;
  kept : IsKeptOf l.model (g.M.Simulator.bound l.fn.simulator) l.progress.kept;
  ran :
      OnlyRanPlans g.M.Simulator.model g.M.Simulator.bound g.M.Simulator.address (l.fn.simulator, l.fn.steps, l.fn.looks)
      (l.simulator, l.steps, l.looks);
}
