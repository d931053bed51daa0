use Rattle.std.proofs.Common.{sym, ap, ◌∙◌}
use Rattle.std.specs.Option.{option_copied}
use Rattle.aerie_base.specs.plans.OfModel.{with_id}
use Rattle.aerie_base.specs.plans.FoundById.{id_found}
use Rattle.plan_merge.proofs.left.left_of.Goals as goal

pub left_of_both-requires-clause-same : goal.left_of_both-requires-clause-same
left_of_both-requires-clause-same c =
    ap (with_id c.args.target.now.directives)
    (id_found c.args.base.now.directives c.args.directive.now.id c.in-Some.of_base.now
    (ap (λ ds. with_id ds c.args.directive.now.id) (sym c.as_slice.ensures) ∙ sym c.directive_with.ensures ∙ ap option_copied c.in-Some.is))
    ∙ c.requires.same
