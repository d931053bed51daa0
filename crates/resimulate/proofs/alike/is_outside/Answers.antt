use Rattle.std.proofs.Common.{◌∙◌, Option, subst, sym}
use Rattle.resimulate.specs.Partings.{AreSameOutside}
use Rattle.resimulate.specs.declared.partings.Parting.{Parting}
use Rattle.resimulate.proofs.CommonDirectives.{stands_in_both}
use Rattle.resimulate.proofs.alike.is_outside.Goals as goal

pub returns : goal.returns
returns c = λ yes.
    let place = c.in-Some.place in
    stands_in_both place.first place.past c.args.plan.now c.args.old_plan.now c.args.directive.now
    (subst (λ (found : Option Parting). AreSameOutside c.args.plan.now c.args.old_plan.now found) c.in-Some.is c.requires.outside)
    (sym c.is_id_between.ensures ∙ c.if-is_id_between.false) c.requires.in_plan
