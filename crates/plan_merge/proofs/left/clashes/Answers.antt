use Rattle.std.proofs.Common.{ap, ◌∙◌, ◌++◌, [], take, filter_map}
use Rattle.std.specs.List.{cons_option}
use Rattle.aerie_base.specs.declared.plans.Directive.{Directive}
use Rattle.plan_merge.specs.Merging.{becomes, clash_of}
use Rattle.plan_merge.proofs.Steps.{filter_map_more_of}
use Rattle.plan_merge.proofs.left.clashes.Goals as goal

pub loop-directive-preserved : goal.loop-directive-preserved
loop-directive-preserved c =
    c.in_ok-push_some.ensures
    ∙ ap (λ all. all ++ cons_option c.clash_of.result []) c.loop-directive.invariant
    ∙ ap (λ one. filter_map (λ (directive : Directive). clash_of directive.id (becomes c.args.base.now c.args.source.now c.args.target.now directive)) (take c.loop-directive.directive-index c.args.base.now.directives) ++ cons_option one []) c.clash_of.ensures
    ∙ filter_map_more_of (λ (directive : Directive). clash_of directive.id (becomes c.args.base.now c.args.source.now c.args.target.now directive)) c.as_slice-directive-items.result.now c.args.base.now.directives
    c.as_slice-directive-items.ensures c.loop-directive.directive-index c.directive-item.result c.loop-directive-test.true c.directive-item.is
