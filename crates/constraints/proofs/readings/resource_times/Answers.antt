use Rattle.std.proofs.Common.{List, sym, subst}
use Rattle.aerie_base.specs.expressions.Arithmetic.{same_value}
use Rattle.windows.specs.Times.{AreIntervals}
use Rattle.constraints.specs.Holding.{equals_or_not}
use Rattle.constraints.specs.Sources.{IsProfile}
use Rattle.constraints.specs.Steps.{Step, AreSteps, step_value}
use Rattle.constraints.proofs.ReadByRules.{are_steps, discrete_times}
use Rattle.constraints.proofs.readings.resource_times.Goals as goal

pub times_equal-requires : goal.times_equal-requires
times_equal-requires c =
    let profile = subst (IsProfile c.args.sources.now.model.now c.args.sources.now.run.now c.args.number) c.in-Discrete.is c.in_ok-profile.ensures in
    record { steps = subst (AreSteps c.args.sources.now.run.now.reach) (sym c.as_slice.ensures) (are_steps c.args.sources.now.run.now.reach c.in-Discrete.steps profile.divide) }

pub returns-in-Discrete : goal.returns-in-Discrete
returns-in-Discrete c =
    discrete_times c.args.sources.now.model.now c.args.sources.now.run.now c.args.number c.args.value.now c.args.equal c.in-Discrete.steps c.in_ok-made-in-Discrete.made c.requires.typed
    (subst (IsProfile c.args.sources.now.model.now c.args.sources.now.run.now c.args.number) c.in-Discrete.is c.in_ok-profile.ensures) c.in_ok-made-in-Discrete.ensures.reach
    (subst (λ (l : List Step). AreIntervals c.in_ok-made-in-Discrete.made.reach (λ t. equals_or_not c.args.equal (same_value (step_value l t) c.args.value.now)) c.in_ok-made-in-Discrete.made.intervals) c.as_slice.ensures
    c.in_ok-made-in-Discrete.ensures.times)
