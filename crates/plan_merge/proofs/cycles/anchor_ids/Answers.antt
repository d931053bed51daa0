use Rattle.std.proofs.Common.{◌<◌, ◌≤◌, ◌++◌, ◌∷◌, [], length, ap, ◌∙◌, arith}
use Rattle.aerie_base.specs.plans.OfModel.{anchored_to}
use Rattle.plan_merge.proofs.Steps.{map_next, map_all}
use Rattle.plan_merge.proofs.cycles.anchor_ids.Goals as goal

pub loop-at-preserved : goal.loop-at-preserved
loop-at-preserved g c =
    let all = g.D.HasIds.as_directives c.args.directives.now in
    let as_many = g.D.HasIds.as_many c.args.directives.now in
    let within : c.loop-at.at < length all = omega (arith, c.loop-at-test.true, as_many) in
    c.in_ok-push.ensures.items ∙ ap (λ ids. ids ++ c.anchor_at.result ∷ []) c.loop-at.invariant
    ∙ map_next anchored_to all c.loop-at.at c.anchor_at.result within c.anchor_at.ensures

pub returns : goal.returns
returns g c =
    let all = g.D.HasIds.as_directives c.args.directives.now in
    let as_many = g.D.HasIds.as_many c.args.directives.now in
    let past : length all ≤ c.loop-at.at = omega (arith, c.loop-at-test.false, as_many) in
    c.loop-at.invariant ∙ map_all anchored_to all c.loop-at.at past
