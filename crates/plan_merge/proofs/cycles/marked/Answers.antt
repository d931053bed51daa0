use Rattle.std.proofs.Common.{false, ap, ◌∙◌, ◌++◌, [], take, get_or}
use Rattle.std.specs.List.{cons_option}
use Rattle.plan_merge.specs.declared.answers.ConflictKind.TheVariants.{Cycle}
use Rattle.plan_merge.specs.Merging.{conflicts_of, conflict_if, conflict_where}
use Rattle.plan_merge.proofs.Steps.{filter_map_more, mapped_item}
use Rattle.plan_merge.proofs.cycles.marked.Goals as goal

pub loop-at-preserved : goal.loop-at-preserved
loop-at-preserved c test are =
    c.in_ok-push_some.ensures
    ∙ ap (λ all. all ++ cons_option c.conflict_where.result []) (c.loop-at.invariant test are)
    ∙ ap (λ one. conflicts_of Cycle test (take c.loop-at.at c.args.directives.now) ++ cons_option one [])
    (c.conflict_where.ensures ∙ ap (λ id. conflict_where Cycle id (get_or c.args.marks.now c.loop-at.at false)) c.id.ensures
    ∙ ap (conflict_where Cycle c.index-directives-at.result.id) (ap (λ marks. get_or marks c.loop-at.at false) are ∙ mapped_item test c.args.directives.now c.loop-at.at c.index-directives-at.result false c.loop-at-test.true c.index-directives-at.is))
    ∙ filter_map_more (conflict_if Cycle test) c.args.directives.now c.loop-at.at c.index-directives-at.result c.loop-at-test.true c.index-directives-at.is
