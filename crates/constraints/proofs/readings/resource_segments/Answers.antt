use Rattle.std.proofs.Common.{List, map, ap, subst, ◌∙◌}
use Rattle.constraints.specs.Sources.{IsProfile}
use Rattle.constraints.specs.Steps.{Step, flat}
use Rattle.constraints.proofs.ReadByRules.{discrete_pieces, linear_pieces}
use Rattle.constraints.proofs.readings.resource_segments.Goals as goal

pub returns-in_ok-made-in-Discrete : goal.returns-in_ok-made-in-Discrete
returns-in_ok-made-in-Discrete c =
    discrete_pieces c.args.sources.now.model.now c.args.sources.now.run.now c.args.number c.in-Discrete.steps c.in_ok-made-in-Discrete.made c.requires.typed
    (subst (IsProfile c.args.sources.now.model.now c.args.sources.now.run.now c.args.number) c.in-Discrete.is c.in_ok-profile.ensures)
    (c.in_ok-made-in-Discrete.ensures.exact ∙ ap (λ (l : List Step). map flat l) c.as_slice.ensures) c.in_ok-made-in-Discrete.ensures.ranges

pub returns-in-Linear : goal.returns-in-Linear
returns-in-Linear c =
    linear_pieces c.args.sources.now.model.now c.args.sources.now.run.now c.args.number c.in-Linear.segments
    c.requires.typed (subst (IsProfile c.args.sources.now.model.now c.args.sources.now.run.now c.args.number) c.in-Linear.is c.in_ok-profile.ensures)
