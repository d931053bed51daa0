use Rattle.std.proofs.Common.{ap, ◌∙◌, ◌++◌, [], take}
use Rattle.std.specs.List.{cons_option}
use Rattle.plan_merge.specs.declared.answers.ConflictKind.TheVariants.{Anchor}
use Rattle.plan_merge.specs.Merging.{has_dangling_anchor, conflicts_of, conflict_if, conflict_where}
use Rattle.plan_merge.proofs.Steps.{filter_map_more}
use Rattle.plan_merge.proofs.anchors.dangling.Goals as goal

pub loop-directive-preserved : goal.loop-directive-preserved
loop-directive-preserved c =
    c.in_ok-push_some.ensures
    ∙ ap (λ all. all ++ cons_option c.conflict_where.result []) c.loop-directive.invariant
    ∙ ap (λ one. conflicts_of Anchor (has_dangling_anchor c.args.directives.now) (take c.loop-directive.directive-index c.args.directives.now) ++ cons_option one [])
    (c.conflict_where.ensures ∙ ap (λ id. conflict_where Anchor id c.has_dangling_anchor-is.result) c.id.ensures ∙ ap (conflict_where Anchor c.directive-item.result.id) c.has_dangling_anchor-is.ensures)
    ∙ filter_map_more (conflict_if Anchor (has_dangling_anchor c.args.directives.now)) c.args.directives.now c.loop-directive.directive-index c.directive-item.result c.loop-directive-test.true c.directive-item.is
