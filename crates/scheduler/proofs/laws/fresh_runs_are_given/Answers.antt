use Rattle.scheduler.proofs.FreshRunFacts.{fresh_is, is_fresh, plan_is}
use Rattle.scheduler.proofs.laws.fresh_runs_are_given.Goals as goal

pub returns : goal.returns
returns c = record {
  fresh = record {
    given = is_fresh c.simulation_ends.ensures.same c.simulation_ends.ensures.run;
    only = fresh_is c.simulation_ends.ensures.same;
  };
  plan = plan_is c.simulation_ends.ensures.same c.simulation_ends.ensures.run c.fresh_runs.ensures.plan;
}
