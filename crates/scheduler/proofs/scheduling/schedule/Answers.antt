use Rattle.std.proofs.Common.{sym, subst}
use Rattle.aerie_base.specs.plans.OfModel.{IsPlanOf}
use Rattle.scheduler.specs.declared.scheduled.Schedule.{Schedule}
use Rattle.scheduler.specs.AddedDirectives.{HasRowsFor}
use Rattle.scheduler.specs.ClientAdds.{IsMadeByAdds}
use Rattle.scheduler.specs.FreshRuns.{fresh_run}
use Rattle.scheduler.specs.OnlyAdds.{OnlyAddsTo}
use Rattle.scheduler.specs.Scheduling.{schedule_of}
use Rattle.scheduler.specs.Told.{AreAllPlaced, EachWith, IsLikePlan, IsTold}
use Rattle.scheduler.proofs.AddedBy.{schedule_adds, schedule_asked}
use Rattle.scheduler.proofs.ByAdds.{schedule_by_adds}
use Rattle.scheduler.proofs.Placed.{is_placed, schedule_like, schedule_placed, schedule_told}
use Rattle.scheduler.proofs.scheduling.schedule.Goals as goal

pub returns-clause-same_position : goal.returns-clause-same_position
returns-clause-same_position g c =
    let bound = g.M.Simulator.bound c.args.simulator.now in
    subst (λ (s : Schedule). IsLikePlan c.args.plan.now s.plan) (sym c.in_ok-whole.ensures.scheduled)
    (schedule_like c.args.model.now bound c.args.constraints.now c.args.goals.now c.args.plan.now)

pub returns-clause-told : goal.returns-clause-told
returns-clause-told g c =
    let bound = g.M.Simulator.bound c.args.simulator.now in
    let model = c.args.model.now in
    subst (λ (s : Schedule). EachWith (IsTold model (fresh_run model bound s.plan)) c.args.goals.now s.goals) (sym c.in_ok-whole.ensures.scheduled)
    (schedule_told model bound c.args.constraints.now c.args.goals.now c.args.plan.now)

pub returns-clause-placed : goal.returns-clause-placed
returns-clause-placed g c =
    let bound = g.M.Simulator.bound c.args.simulator.now in
    let model = c.args.model.now in
    let made : Schedule = schedule_of model bound c.args.constraints.now c.args.goals.now c.args.plan.now in
    let of = subst (λ (s : Schedule). IsPlanOf model s.plan) c.in_ok-whole.ensures.scheduled c.in_ok-whole.ensures.plan in
    subst (λ (s : Schedule). EachWith (AreAllPlaced model s.plan (fresh_run model bound s.plan)) c.args.goals.now s.goals) (sym c.in_ok-whole.ensures.scheduled)
    (schedule_placed model bound c.args.constraints.now c.args.goals.now c.args.plan.now
    (λ template id completed is.
    is_placed c.planned_directives_have_spans.ensures model bound made.plan (fresh_run model bound made.plan) c.name-valid.ensures.valid of
    (c.fresh_runs_are_given.ensures.fresh.given model bound made.plan) completed template id is))

pub returns-clause-only_adds : goal.returns-clause-only_adds
returns-clause-only_adds g c =
    let bound = g.M.Simulator.bound c.args.simulator.now in
    subst (OnlyAddsTo c.args.plan.now) (sym c.in_ok-whole.ensures.scheduled)
    (schedule_adds c.args.model.now bound c.args.constraints.now c.args.goals.now c.args.plan.now)

pub returns-clause-asked : goal.returns-clause-asked
returns-clause-asked g c =
    let bound = g.M.Simulator.bound c.args.simulator.now in
    subst (HasRowsFor c.args.model.now c.args.goals.now) (sym c.in_ok-whole.ensures.scheduled)
    (schedule_asked c.args.model.now bound c.args.constraints.now c.args.goals.now c.args.plan.now c.requires.goals)

pub returns-clause-by_adds : goal.returns-clause-by_adds
returns-clause-by_adds g c =
    let bound = g.M.Simulator.bound c.args.simulator.now in
    subst (λ (s : Schedule). IsMadeByAdds c.args.model.now c.args.plan.now s.plan) (sym c.in_ok-whole.ensures.scheduled)
    (schedule_by_adds c.args.model.now bound c.args.constraints.now c.args.goals.now c.args.plan.now c.name-valid.ensures.valid c.requires.goals)
