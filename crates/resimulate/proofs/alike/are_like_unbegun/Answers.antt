use Rattle.std.proofs.Common.{◌≡◌, ◌∙◌, List, length, Some, slice_get, ap, subst, sym, arith}
use Rattle.aerie_base.specs.declared.plans.Directive.{Directive}
use Rattle.resimulate.specs.Likeness.{IsLikeUnbegun}
use Rattle.resimulate.proofs.CommonDirectives.{read_in_plan}
use Rattle.resimulate.proofs.Likenesses.{all_unbegun, each_next, same_at}
use Rattle.resimulate.proofs.alike.are_like_unbegun.Goals as goal

pub returns : goal.returns
returns c = λ yes.
    let many = ap (λ (l : List Directive). length l) c.as_slice-directives.ensures in
    let past = c.loop-at-test.false in
    all_unbegun c.args.plan.now c.args.old_plan.now c.args.parted c.args.traces.now.entries c.args.others.now.entries c.loop-at.at (omega (arith, past, many)) c.loop-at.invariant

pub loop-at-preserved : goal.loop-at-preserved
loop-at-preserved c =
    each_next c.loop-at.at
    (λ k. (one : Directive) → slice_get c.args.plan.now.directives k ≡ Some one → IsLikeUnbegun c.args.old_plan.now c.args.parted c.args.traces.now.entries c.args.others.now.entries one) c.loop-at.invariant
    (λ one there.
    subst (IsLikeUnbegun c.args.old_plan.now c.args.parted c.args.traces.now.entries c.args.others.now.entries)
    (same_at c.as_slice-directives.result.now c.loop-at.at c.index-directives-at.result one c.loop-at-test.true c.index-directives-at.is (ap (λ (l : List Directive). slice_get l c.loop-at.at) c.as_slice-directives.ensures ∙ there))
    (c.in_ok-yes.ensures c.if-not-yes.false))

pub is_like_unbegun-requires-clause-in_plan : goal.is_like_unbegun-requires-clause-in_plan
is_like_unbegun-requires-clause-in_plan c = (
  c.loop-at.at,
  ap (λ (l : List Directive). slice_get l c.loop-at.at) (sym c.as_slice-directives.ensures)
      ∙ read_in_plan c.as_slice-directives.result.now c.loop-at.at c.index-directives-at.result c.loop-at-test.true c.index-directives-at.is,
)
