use Rattle.std.proofs.Common.{ℕ, [], ◌∙◌, ap, length, sym}
use Rattle.std.proofs.lemmas.Bool.{eqb-true}
use Rattle.aerie_base.specs.declared.plans.Plan.{Plan}
use Rattle.run_data.specs.KeptRuns.{KeptRun}
use Rattle.scheduler.specs.declared.scheduled.Schedule.{Schedule}
use Rattle.scheduler.specs.Scheduling.{schedule_of}
use Rattle.scheduler.proofs.GoalCounts.{scheduled_is, without_goals}
use Rattle.scheduler.proofs.scheduling.scheduled.Goals as goal

-- the schedule of no goals
abbrev nothing_placed : Plan → Schedule
nothing_placed plan = record { plan = plan; goals = []; trials = 0 }

pub returns-then-is_empty-clause-scheduled : goal.returns-then-is_empty-clause-scheduled
returns-then-is_empty-clause-scheduled g c =
    c.in_ok-made.ensures ∙ ap nothing_placed c.get.ensures
    ∙ without_goals c.args.request.now.model.now (g.M.Simulator.bound c.args.simulator.now) c.args.request.now.constraints.now c.args.request.now.goals.now c.args.request.now.plan.now
    (eqb-true (length c.args.request.now.goals.now) 0 (sym c.is_empty.ensures ∙ c.if-is_empty.true))

pub returns-clause-scheduled : goal.returns-clause-scheduled
returns-clause-scheduled g c =
    let model = c.args.request.now.model.now in
    let bound = g.M.Simulator.bound c.args.simulator.now in
    let kept = c.in_ok-kept.kept in
    let plan =
    ap (λ (k : KeptRun). k.run.plan) c.in_ok-kept.ensures.kept
    ∙ c.fresh_runs_are_given.ensures.plan (g.M.Simulator.model c.args.simulator.now) bound c.args.request.now.plan.now in
    c.in_ok-made-2.ensures
    ∙ scheduled_is model (g.M.Simulator.bound c.simulated.new.simulator) c.args.request.now.constraints.now c.args.request.now.goals.now kept.run.plan c.in_ok-progress.progress c.in_ok-progress.ensures.kept
    c.in_ok-progress.ensures.placed
    ∙ ap (λ (b : ℕ). schedule_of model b c.args.request.now.constraints.now c.args.request.now.goals.now kept.run.plan) c.in_ok-kept.ensures.ran.bound
    ∙ ap (λ (p : Plan). schedule_of model bound c.args.request.now.constraints.now c.args.request.now.goals.now p) plan
