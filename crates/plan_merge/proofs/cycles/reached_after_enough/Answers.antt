use Rattle.std.proofs.Common.{◌≡◌, suc, ◌+◌, ap, ◌∙◌, refl, map, arith}
use Rattle.plan_merge.specs.Reached.{reached_from, reached_after}
use Rattle.plan_merge.proofs.Doubled.{twice, once}
use Rattle.plan_merge.proofs.cycles.reached_after_enough.Goals as goal

pub loop-steps-init : goal.loop-steps-init
loop-steps-init g c = (0, (refl, c.in_ok-reached.ensures ∙ once (g.D.HasIds.as_directives c.args.directives.now) c.requires.rising))

pub loop-steps-preserved : goal.loop-steps-preserved
loop-steps-preserved g c =
    let all = g.D.HasIds.as_directives c.args.directives.now in
    let less = c.loop-steps.invariant.0 in
    let steps_are = c.loop-steps.invariant.1.0 in
    let is : c.loop-steps.steps + c.loop-steps.steps ≡ suc (less + suc less) = omega (arith, steps_are) in
    let sum : suc less + suc less ≡ suc (less + suc less) = omega arith in
    (less + suc less, (is, c.in_ok-reached-2.ensures ∙ ap (λ reached. map (reached_from all reached) reached) (c.as_slice.ensures.value ∙ c.loop-steps.invariant.1.1) ∙ twice all less ∙ ap (reached_after all) sum))

pub returns : goal.returns
returns g c =
    let less = c.loop-steps.invariant.0 in
    let enough = c.loop-steps-test.false in
    (less, (omega (arith, enough, c.loop-steps.invariant.1.0, g.D.HasIds.as_many c.args.directives.now), c.loop-steps.invariant.1.1))
