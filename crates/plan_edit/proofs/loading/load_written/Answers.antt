use Rattle.std.proofs.Common.{◌<◌, ◌^◌, List, length, sym, subst, ◌∙◌}
use Rattle.aerie_base.specs.declared.plans.Directive.{Directive}
use Rattle.aerie_base.specs.plans.OfModel.{Rise}
use Rattle.plan_edit.proofs.Loads.{ids_suffice, as_few, new_ids_rise}
use Rattle.plan_edit.proofs.loading.load_written.Goals as goal

pub anchor_to_new_ids-requires-clause-few : goal.anchor_to_new_ids-requires-clause-few
anchor_to_new_ids-requires-clause-few c =
    ids_suffice c.args.model.now c.activities-types.ensures.valid c.args.plan.now c.args.all.now c.in_ok-directives.directives c.in_ok-directives.ensures

pub has_cycle-requires-clause-rising : goal.has_cycle-requires-clause-rising
has_cycle-requires-clause-rising c =
    subst Rise (sym (c.as_slice.ensures ∙ c.anchor_to_new_ids.ensures))
    (new_ids_rise c.args.model.now c.activities-types.ensures.valid c.args.plan.now c.args.all.now c.in_ok-directives.directives c.in_ok-directives.ensures c.requires.plan.next_id)

pub has_cycle-requires-clause-few : goal.has_cycle-requires-clause-few
has_cycle-requires-clause-few c =
    subst (λ (ds : List Directive). length ds < 2 ^ 32) (sym (c.as_slice.ensures ∙ c.anchor_to_new_ids.ensures))
    (as_few c.args.model.now c.activities-types.ensures.valid c.args.plan.now c.args.all.now c.in_ok-directives.directives c.in_ok-directives.ensures)
