use Rattle.std.proofs.Common.{◌≤◌, All, sym, subst}
use Rattle.aerie_base.specs.models.Limits.{statement_limit}
use Rattle.aerie_base.specs.statements.Places.{block_count}
use Rattle.body_code.proofs.ModelBodies.{few_in_activities, few_in_daemons, are_codes, all_codes}
use Rattle.body_code.proofs.models.compile_all.Goals as goal

pub add_activities-requires : goal.add_activities-requires
add_activities-requires c =
    subst (All (λ activity. block_count activity.body ≤ statement_limit)) (sym c.activities.ensures.value) (few_in_activities _ c.activities.ensures.valid)

pub add_daemons-requires : goal.add_daemons-requires
add_daemons-requires c =
    subst (All (λ daemon. block_count daemon.body ≤ statement_limit)) (sym c.daemons.ensures.value) (few_in_daemons _ c.daemons.ensures.valid)

pub returns-clause-denotes : goal.returns-clause-denotes
returns-clause-denotes c =
    are_codes c.args.model.now _ (all_codes c.args.model.now _ _ _ _ _ c.new-codes.ensures c.activities.ensures.value c.in_ok-add_activities.ensures c.daemons.ensures.value c.in_ok-add_daemons.ensures)
