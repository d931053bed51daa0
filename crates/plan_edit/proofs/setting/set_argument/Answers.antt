use Rattle.std.proofs.Common.{◌≡◌, ◌<◌, List, subst, length, slice_get}
use Rattle.aerie_base.specs.declared.plans.Directive.{Directive}
use Rattle.aerie_base.specs.plans.OfModel.{with_id}
use Rattle.plan_edit.proofs.Given.{item_read}
use Rattle.plan_edit.proofs.Settings.{set_so, set_plan}
use Rattle.plan_edit.proofs.setting.set_argument.Goals as goal

pub returns-clause-edited : goal.returns-clause-edited
returns-clause-edited c =
    let within = subst (λ (ds : List Directive). c.in-Some.at < length ds) c.as_slice.ensures c.in-Some.ensures.within in
    let found = subst (λ (ds : List Directive). slice_get ds c.in-Some.at ≡ with_id ds c.args.id) c.as_slice.ensures c.in-Some.ensures.found in
    set_so c.args.model.now c.args.plan.now c.requires.plan c.in-Some.at c.args.id within found c.index-as_slice-at.result
    (item_read c.as_slice-2.result.now c.args.plan.now.directives c.in-Some.at c.index-as_slice-at.result c.as_slice-2.ensures within c.index-as_slice-at.is)
    c.args.parameter.now c.args.value.now c.in_ok-arguments.arguments c.in_ok-arguments.ensures.made c.put_arguments.new.directives c.put_arguments.ensures

pub returns-clause-plan : goal.returns-clause-plan
returns-clause-plan c =
    let within = subst (λ (ds : List Directive). c.in-Some.at < length ds) c.as_slice.ensures c.in-Some.ensures.within in
    let found = subst (λ (ds : List Directive). slice_get ds c.in-Some.at ≡ with_id ds c.args.id) c.as_slice.ensures c.in-Some.ensures.found in
    set_plan c.args.model.now c.args.plan.now c.requires.plan c.in-Some.at c.args.id within found c.index-as_slice-at.result
    (item_read c.as_slice-2.result.now c.args.plan.now.directives c.in-Some.at c.index-as_slice-at.result c.as_slice-2.ensures within c.index-as_slice-at.is)
    c.args.parameter.now c.args.value.now c.in_ok-arguments.arguments c.in_ok-arguments.ensures.made c.put_arguments.new.directives c.put_arguments.ensures
