use Rattle.std.proofs.Common.{sym, ap, ◌∙◌, ◌++◌}
use Rattle.std.proofs.lemmas.List.{append-nil}
use Rattle.plan_merge.proofs.Renames.{ids_given, given_are}
use Rattle.plan_merge.proofs.Steps.{drop_all}
use Rattle.plan_merge.proofs.renaming.new_ids.Goals as goal

pub returns : goal.returns
returns c =
    sym (append-nil c.loop-directive.ids.items)
    ∙ sym (ap (λ rest. c.loop-directive.ids.items ++ ids_given c.args.base.now c.loop-directive.next rest) (drop_all c.args.source.now c.loop-directive.directive-index c.loop-directive-test.false))
    ∙ c.loop-directive.invariant.given
    ∙ given_are c.args.base.now c.requires.source.0 c.args.first 0 c.args.source.now c.requires.source.1
