use Rattle.std.proofs.Common.{is_some, ap, ◌∙◌}
use Rattle.std.specs.List.{list_any}
use Rattle.plan_edit.proofs.Rounds.{far_is_cycle}
use Rattle.plan_edit.proofs.cycles.has_cycle.Goals as goal

pub returns : goal.returns
returns c =
    let far = c.in_ok-reached.ensures in
    c.is_any_reached.ensures ∙ ap (list_any is_some) (c.as_slice.ensures.value ∙ far.1.1) ∙ far_is_cycle c.args.directives.now far.0 far.1.0
