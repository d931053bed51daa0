use Rattle.std.proofs.Common.{ap, ◌∙◌, ◌++◌, ◌∷◌, [], map, take}
use Rattle.plan_merge.specs.Renaming.{new_id, with_new_ids}
use Rattle.plan_merge.proofs.Steps.{map_more, map_all}
use Rattle.plan_merge.proofs.renaming.rename_by.Goals as goal

pub loop-directive-preserved : goal.loop-directive-preserved
loop-directive-preserved c base first are =
    c.in_ok-push.ensures.pushed
    ∙ ap (λ all. all ++ c.in_ok-rename.field-0 ∷ []) (c.loop-directive.invariant base first are)
    ∙ ap (λ one. map (with_new_ids (new_id base first c.args.source.now)) (take c.loop-directive.directive-index c.args.source.now) ++ one ∷ []) (c.in_ok-rename.ensures base first are)
    ∙ map_more (with_new_ids (new_id base first c.args.source.now)) c.args.source.now c.loop-directive.directive-index c.directive-item.result c.loop-directive-test.true c.directive-item.is

pub returns : goal.returns
returns c base first are =
    c.loop-directive.invariant base first are ∙ map_all (with_new_ids (new_id base first c.args.source.now)) c.args.source.now c.loop-directive.directive-index c.loop-directive-test.false
