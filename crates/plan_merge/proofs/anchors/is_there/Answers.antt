use Rattle.std.proofs.Common.{sym, ap, ◌∙◌}
use Rattle.aerie_base.specs.plans.OfModel.{is_there}
use Rattle.aerie_base.specs.plans.FoundById.{among}
use Rattle.plan_merge.proofs.anchors.is_there.Goals as goal

pub returns-in-Some : goal.returns-in-Some
returns-in-Some c = c.has.ensures ∙ among c.args.directives.now c.in-Some.id ∙ sym (ap (is_there c.args.directives.now) c.in-Some.is)
