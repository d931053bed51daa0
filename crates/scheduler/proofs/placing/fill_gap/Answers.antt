use Rattle.std.proofs.Common.{◌<◌, ◌∙◌, ap, sym, subst}
use Rattle.scheduler.specs.declared.placing.Placing.{Placing}
use Rattle.scheduler.specs.InProgram.{IsKeptOf, goal_filled, most_gaps_left}
use Rattle.scheduler.proofs.GoalIterations.{goes_after, fewer_after, kept_after}
use Rattle.scheduler.proofs.placing.fill_gap.Goals as goal

pub returns-in_ok-made-in-Some-clause-filled : goal.returns-in_ok-made-in-Some-clause-filled
returns-in_ok-made-in-Some-clause-filled g c =
    let bound = g.M.Simulator.bound c.args.simulator.now in
    let request = c.args.request.now in
    let some = sym c.in_ok-found.ensures ∙ c.in-Some.is in
    ap (λ (made : Placing). goal_filled bound request made) c.in_ok-made-in-Some.ensures
    ∙ goes_after bound request c.args.placing c.requires.kept c.requires.goes_on (c.fresh_runs_are_given.ensures.plan request.model.now bound) c.in-Some.gap some
    c.in_ok-found-in-Some.found c.in_ok-found-in-Some.ensures.found

pub returns-in_ok-made-in-Some-clause-fewer : goal.returns-in_ok-made-in-Some-clause-fewer
returns-in_ok-made-in-Some-clause-fewer g c =
    let bound = g.M.Simulator.bound c.args.simulator.now in
    let request = c.args.request.now in
    let some = sym c.in_ok-found.ensures ∙ c.in-Some.is in
    subst (λ (made : Placing). most_gaps_left made < most_gaps_left c.args.placing) (sym c.in_ok-made-in-Some.ensures)
    (fewer_after bound request c.args.placing c.requires.kept c.requires.goes_on (c.fresh_runs_are_given.ensures.plan request.model.now bound) c.in-Some.gap some
    c.in_ok-found-in-Some.found c.in_ok-found-in-Some.ensures.found)

pub returns-in_ok-made-in-Some-clause-kept : goal.returns-in_ok-made-in-Some-clause-kept
returns-in_ok-made-in-Some-clause-kept g c =
    let bound = g.M.Simulator.bound c.args.simulator.now in
    let request = c.args.request.now in
    let some = sym c.in_ok-found.ensures ∙ c.in-Some.is in
    subst (λ (made : Placing). IsKeptOf request.model.now bound made.kept) (sym c.in_ok-made-in-Some.ensures)
    (kept_after bound request c.args.placing c.requires.kept c.requires.goes_on (c.fresh_runs_are_given.ensures.plan request.model.now bound) c.in-Some.gap some
    c.in_ok-found-in-Some.found c.in_ok-found-in-Some.ensures.found c.requires.request.asked)
