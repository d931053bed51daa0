use Rattle.plan_merge.specs.Renaming.{new_id}
use Rattle.plan_merge.proofs.Renames.{built}
use Rattle.plan_merge.proofs.renaming.rename.Goals as goal

pub returns : goal.returns
returns c base first are =
    built (new_id base first c.args.source.now) c.args.directive.now c.new_id.result _ _ (c.new_id.ensures base first are) (c.renamed_anchor.ensures base first are) c.in_ok-copy_list.ensures
