use Rattle.std.proofs.Common.{◌≡◌}
use Rattle.record_book.proofs.Walks.{IsWalk, steps_left}
use Rattle.record_book.proofs.stored_steps.step_under.Given as goal

abbrev pub invariant-loop-next : goal.invariant-loop-next
invariant-loop-next g l = IsWalk l.steps l.fn.key (λ at stored. (stored.way ≡ l.way) × g.P.Probe.agrees l.probe stored.step.reads) l.next

abbrev pub decreases-loop-next : goal.decreases-loop-next
decreases-loop-next g l = steps_left l.next
