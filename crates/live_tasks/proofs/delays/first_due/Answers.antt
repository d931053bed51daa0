use Rattle.std.proofs.Common.{sym, ◌∙◌}
use Rattle.live_tasks.proofs.DelayHeaps.{none_now, at_first}
use Rattle.live_tasks.proofs.delays.first_due.Goals as goal

pub returns-else-time-micros-clause-none : goal.returns-else-time-micros-clause-none
returns-else-time-micros-clause-none c = λ _.
    none_now _ _ _ (at_first _ c.in-Some.field-0.now c.in-Some.ensures.item.0 c.in-Some.ensures.item.1) (c.in-Some.ensures.greatest c.requires.ordered) (λ e. c.if-time-micros.false (e ∙ sym c.micros.ensures.value))
