use Rattle.std.proofs.Common.{sym, ap, ◌∙◌, ◌||◌, true, slice_set, map}
use Rattle.aerie_base.specs.declared.plans.Directive.{Directive}
use Rattle.plan_merge.specs.Merging.{is_at}
use Rattle.plan_merge.proofs.Finds.{unmarked, mark_found}
use Rattle.plan_merge.proofs.cycles.mark.Goals as goal

pub returns-in-Some-position_of_id-clause-marked : goal.returns-in-Some-position_of_id-clause-marked
returns-in-Some-position_of_id-clause-marked c led are =
    ap (λ marks. slice_set marks c.in-Some-position_of_id.at true) are
    ∙ mark_found led c.args.directives.now c.in-Some-position_of_id.at c.in-Some.id c.requires.rising c.in-Some-position_of_id.ensures.within c.in-Some-position_of_id.ensures.found
    ∙ sym (ap (λ reached_one. map (λ (d : Directive). led d || is_at d.id reached_one) c.args.directives.now) c.in-Some.is)

pub returns-in-None-clause-marked : goal.returns-in-None-clause-marked
returns-in-None-clause-marked c led are =
    are ∙ unmarked led c.args.directives.now c.in-Some.id (sym c.in-None.ensures.found)
    ∙ sym (ap (λ reached_one. map (λ (d : Directive). led d || is_at d.id reached_one) c.args.directives.now) c.in-Some.is)
