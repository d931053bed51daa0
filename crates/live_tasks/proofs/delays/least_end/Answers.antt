use Rattle.live_tasks.proofs.DelayHeaps.{first_is_least, at_first}
use Rattle.live_tasks.proofs.delays.least_end.Goals as goal

pub returns-in-Some : goal.returns-in-Some
returns-in-Some c =
    first_is_least _ c.in-Some.field-0.now (at_first _ c.in-Some.field-0.now c.in-Some.ensures.item.0 c.in-Some.ensures.item.1) (c.in-Some.ensures.greatest c.requires.ordered)
