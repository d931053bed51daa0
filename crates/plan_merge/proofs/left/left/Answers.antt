use Rattle.std.proofs.Common.{ap, ◌∙◌, ◌++◌, [], take, filter_map}
use Rattle.std.specs.List.{cons_option}
use Rattle.aerie_base.specs.declared.plans.Directive.{Directive}
use Rattle.aerie_base.specs.plans.OfModel.{with_id}
use Rattle.plan_merge.specs.Plans.{rises}
use Rattle.plan_merge.specs.Merging.{left_by}
use Rattle.plan_merge.proofs.Steps.{filter_map_more_of}
use Rattle.plan_merge.proofs.Finds.{item_found}
use Rattle.plan_merge.proofs.left.left.Goals as goal

pub left_of-requires-clause-same : goal.left_of-requires-clause-same
left_of-requires-clause-same c =
    item_found c.as_slice-directive-items.result.now c.args.target.now.directives c.as_slice-directive-items.ensures (rises c.args.target.now c.requires.order.target)
    c.loop-directive.directive-index c.directive-item.result c.loop-directive-test.true c.directive-item.is

pub loop-directive-preserved : goal.loop-directive-preserved
loop-directive-preserved c =
    c.in_ok-push_some.ensures
    ∙ ap (λ all. all ++ cons_option c.in_ok-one.one []) c.loop-directive.invariant
    ∙ ap (λ one. filter_map (λ (directive : Directive). left_by c.args.base.now c.args.source.now c.args.target.now directive (with_id c.args.base.now.directives directive.id)) (take c.loop-directive.directive-index c.args.target.now.directives) ++ cons_option one []) c.in_ok-one.ensures
    ∙ filter_map_more_of (λ (directive : Directive). left_by c.args.base.now c.args.source.now c.args.target.now directive (with_id c.args.base.now.directives directive.id)) c.as_slice-directive-items.result.now c.args.target.now.directives
    c.as_slice-directive-items.ensures c.loop-directive.directive-index c.directive-item.result c.loop-directive-test.true c.directive-item.is
