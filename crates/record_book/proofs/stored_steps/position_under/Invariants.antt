use Rattle.record_book.specs.Ways.{FitsOn}
use Rattle.record_book.proofs.Walks.{IsWalk, steps_left}
use Rattle.record_book.proofs.stored_steps.position_under.Given as goal

abbrev pub invariant-loop-next : goal.invariant-loop-next
invariant-loop-next l = IsWalk l.ways l.fn.key (λ way taken. FitsOn l.steps l.state l.view way) l.next

abbrev pub decreases-loop-next : goal.decreases-loop-next
decreases-loop-next l = steps_left l.next
