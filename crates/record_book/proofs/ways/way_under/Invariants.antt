use Rattle.std.proofs.Common.{◌≡◌}
use Rattle.record_book.specs.Ways.{way_of}
use Rattle.record_book.proofs.Walks.{IsWalk, steps_left}
use Rattle.record_book.proofs.ways.way_under.Given as goal

abbrev pub invariant-loop-next : goal.invariant-loop-next
invariant-loop-next l = IsWalk l.ways l.fn.key (λ at way. way ≡ way_of l.state l.reads) l.next

abbrev pub decreases-loop-next : goal.decreases-loop-next
decreases-loop-next l = steps_left l.next
