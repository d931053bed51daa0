use Rattle.std.proofs.Common.{not, Some, None, sym, ap, ◌∙◌, ◌++◌, [], take, filter_map, if◌then◌else◌}
use Rattle.std.specs.List.{cons_option}
use Rattle.std.proofs.lemmas.List.{append_assoc}
use Rattle.aerie_base.specs.declared.plans.Directive.{Directive}
use Rattle.plan_merge.specs.Renaming.{has, renamed, renamed_if_new}
use Rattle.plan_merge.proofs.Steps.{filter_map_more_of, mapped_item_of}
use Rattle.plan_merge.proofs.left.push_added.Goals as goal

pub loop-at-preserved : goal.loop-at-preserved
loop-at-preserved c =
    let h = renamed_if_new c.args.base.now c.args.source.now c.args.target.now in
    let ds = c.args.source.now.directives in
    let item = c.index-of_source-at.result in
    c.in_ok-push_some.ensures
    ∙ ap (λ all. all ++ cons_option c.in_ok-one.one []) c.loop-at.invariant
    ∙ append_assoc c.args.directives.now (filter_map h (take c.loop-at.at ds)) (cons_option c.in_ok-one.one [])
    ∙ ap (λ one. c.args.directives.now ++ (filter_map h (take c.loop-at.at ds) ++ cons_option one []))
    (c.in_ok-one.ensures
    ∙ ap (λ b. if not b then Some c.index-all-at.result else None) (c.has-is_new.ensures ∙ ap (λ (d : Directive). has c.as_slice.result.now d.id) (sym c.index-of_source-at.is) ∙ ap (λ bs. has bs item.id) c.as_slice.ensures)
    ∙ ap (λ d. if not (has c.args.base.now.directives item.id) then Some d else None)
    (c.index-all-at.is ∙ mapped_item_of (renamed c.args.base.now c.args.source.now c.args.target.now) c.args.all.now ds c.requires.renamed c.as_slice-of_source.result.now c.as_slice-of_source.ensures c.loop-at.at item c.index-all-at.result c.loop-at-test.true c.index-of_source-at.is))
    ∙ ap (λ more. c.args.directives.now ++ more) (filter_map_more_of h c.as_slice-of_source.result.now ds c.as_slice-of_source.ensures c.loop-at.at item c.loop-at-test.true c.index-of_source-at.is)
