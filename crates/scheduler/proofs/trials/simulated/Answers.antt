use Rattle.std.proofs.Common.{◌∙◌, sym, subst}
use Rattle.scheduler.specs.InProgram.{IsKeptOf}
use Rattle.scheduler.proofs.trials.simulated.Goals as goal

pub returns-clause-kept : goal.returns-clause-kept
returns-clause-kept g c = c.in_ok-made.ensures ∙ c.in_ok-kept.ensures.kept

pub returns-clause-of_model : goal.returns-clause-of_model
returns-clause-of_model g c =
    subst (IsKeptOf (g.M.Simulator.model c.args.simulator.now) (g.M.Simulator.bound c.args.simulator.now)) (sym c.in_ok-made.ensures)
    c.in_ok-kept.ensures.of_model
