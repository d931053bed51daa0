use Rattle.std.proofs.Common.{◌≡◌, ◌<◌, List, ◌∙◌, sym, subst, length, slice_get}
use Rattle.aerie_base.specs.declared.plans.Directive.{Directive}
use Rattle.aerie_base.specs.plans.OfModel.{with_id}
use Rattle.plan_edit.proofs.Moves.{moved_so, moved_plan}
use Rattle.plan_edit.proofs.moving.move_to.Goals as goal

pub returns-clause-edited : goal.returns-clause-edited
returns-clause-edited c =
    moved_so c.args.plan.now c.in-Some.at c.args.id c.args.to c.requires.rising
    (subst (λ (ds : List Directive). c.in-Some.at < length ds) c.as_slice.ensures c.in-Some.ensures.within)
    (subst (λ (ds : List Directive). slice_get ds c.in-Some.at ≡ with_id ds c.args.id) c.as_slice.ensures c.in-Some.ensures.found)
    (sym c.is_outside.ensures ∙ c.if-is_outside.false) (sym c.is_dangling.ensures ∙ c.if-is_dangling.false) (sym c.leads_to.ensures ∙ c.if-leads_to.false) c.put_when.new.directives c.put_when.ensures

pub returns-clause-stays : goal.returns-clause-stays
returns-clause-stays c =
    moved_plan c.args.plan.now c.in-Some.at c.args.id c.args.to c.requires.rising
    (subst (λ (ds : List Directive). c.in-Some.at < length ds) c.as_slice.ensures c.in-Some.ensures.within)
    (subst (λ (ds : List Directive). slice_get ds c.in-Some.at ≡ with_id ds c.args.id) c.as_slice.ensures c.in-Some.ensures.found)
    (sym c.is_outside.ensures ∙ c.if-is_outside.false) (sym c.is_dangling.ensures ∙ c.if-is_dangling.false) (sym c.leads_to.ensures ∙ c.if-leads_to.false) c.put_when.new.directives c.put_when.ensures
