use Rattle.std.proofs.Common.{◌∙◌, ap, length, sym}
use Rattle.scheduler.specs.FreshRuns.{fresh_run}
use Rattle.scheduler.specs.Scheduling.{GoalsPlaced, trial_limit}
use Rattle.scheduler.specs.InProgram.{all_shown}
use Rattle.scheduler.proofs.GoalCounts.{as_many, none_more}
use Rattle.scheduler.proofs.progress.place_goals.Goals as goal

pub returns-clause-each : goal.returns-clause-each
returns-clause-each g c =
    let model = c.args.model.now in
    let run_of = fresh_run model (g.M.Simulator.bound c.args.simulator.now) in
    let all =
    sym (none_more model c.args.constraints.now run_of c.args.goals.now c.loop-goal.goal-index (all_shown c.loop-goal.progress) c.loop-goal-test.false)
    ∙ c.loop-goal.invariant.placed in
    ap (λ (all : GoalsPlaced). length all.parts) all ∙ as_many model c.args.constraints.now run_of c.args.goals.now c.args.kept.run.plan trial_limit
