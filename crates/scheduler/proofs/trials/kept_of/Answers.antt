use Rattle.std.proofs.Common.{◌∙◌, ap, sym, subst}
use Rattle.aerie_base.specs.declared.plans.Plan.{Plan}
use Rattle.aerie_base.specs.plans.OfModel.{IsPlanOf}
use Rattle.scheduler.specs.FreshRuns.{fresh_run}
use Rattle.scheduler.proofs.FreshRunFacts.{fresh_is, kept_is}
use Rattle.scheduler.proofs.trials.kept_of.Goals as goal

pub returns-clause-kept : goal.returns-clause-kept
returns-clause-kept g c =
    let model = g.M.Simulator.model c.args.simulator.now in
    let bound = g.M.Simulator.bound c.args.simulator.now in
    kept_is c.in_ok-kept.kept model bound c.args.plan.now c.in_ok-kept.ensures.model_of
    (fresh_is c.simulation_ends.ensures.same model bound c.args.plan.now c.in_ok-kept.kept.run c.in_ok-kept.ensures.fresh)

pub returns-clause-of_model : goal.returns-clause-of_model
returns-clause-of_model g c =
    let model = g.M.Simulator.model c.args.simulator.now in
    let bound = g.M.Simulator.bound c.args.simulator.now in
    let same = sym c.in_ok-kept.ensures.plan_of in
    record {
      is =
          kept_is c.in_ok-kept.kept model bound c.in_ok-kept.kept.run.plan c.in_ok-kept.ensures.model_of
          (fresh_is c.simulation_ends.ensures.same model bound c.args.plan.now c.in_ok-kept.kept.run c.in_ok-kept.ensures.fresh
          ∙ ap (λ (plan : Plan). fresh_run model bound plan) same);
      plan = subst (IsPlanOf model) same c.requires.plan;
    }
