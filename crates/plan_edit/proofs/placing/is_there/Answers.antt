use Rattle.std.proofs.Common.{List, ap, ◌∙◌, nat_eq}
use Rattle.std.specs.List.{list_any}
use Rattle.aerie_base.specs.declared.plans.Directive.{Directive}
use Rattle.aerie_base.specs.plans.OfModel.{ids_of}
use Rattle.aerie_base.specs.plans.FoundById.{among}
use Rattle.plan_edit.proofs.Given.{found_is}
use Rattle.plan_edit.proofs.placing.is_there.Goals as goal

pub returns : goal.returns
returns c =
    c.is_some.ensures
    ∙ found_is c.as_slice.result.now c.position_in_plan.result c.args.id c.position_in_plan.ensures.found c.position_in_plan.ensures.within
    ∙ among c.as_slice.result.now c.args.id
    ∙ ap (λ (ds : List Directive). list_any (nat_eq c.args.id) (ids_of ds)) c.as_slice.ensures
