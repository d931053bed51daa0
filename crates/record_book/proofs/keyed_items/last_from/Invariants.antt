use Rattle.std.proofs.Common.{length}
use Rattle.record_book.proofs.Chaining.{IsSearch}
use Rattle.record_book.proofs.Walks.{steps_left}
use Rattle.record_book.proofs.keyed_items.last_from.Given as goal

abbrev pub invariant-loop-next : goal.invariant-loop-next
invariant-loop-next g l = IsSearch l.items (length l.newest) l.before l.key l.next

abbrev pub decreases-loop-next : goal.decreases-loop-next
decreases-loop-next g l = steps_left l.next
