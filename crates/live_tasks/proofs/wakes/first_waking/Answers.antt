use Rattle.std.proofs.Common.{sym, ◌∙◌}
use Rattle.live_tasks.proofs.WakeSets.{none_there, none_at_all, empty_from_length}
use Rattle.live_tasks.proofs.wakes.first_waking.Goals as goal

pub returns-else-time-micros-clause-none : goal.returns-else-time-micros-clause-none
returns-else-time-micros-clause-none c = λ none before number.
    none_there _ _ _ _ c.in-Some.ensures.member c.in-Some.ensures.least (λ e. c.if-time-micros.false (e ∙ sym c.micros.ensures.value)) before number

pub returns-in-None-clause-none : goal.returns-in-None-clause-none
returns-in-None-clause-none c = λ none before number. none_at_all _ (empty_from_length _ c.in-None.ensures.variant.1) _ number
