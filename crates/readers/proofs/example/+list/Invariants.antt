use Rattle.std.proofs.Common.{length, ◌+◌, ◌*◌}
use Rattle.aerie_text.specs.declared.sorts.Sort.TheVariants.{Comma}
use Rattle.readers.specs.Entries.{item_at, inner_at}
use Rattle.readers.specs.Parsed.{is_of, behind_at}
use Rattle.readers.proofs.Going.{Going}
use Rattle.readers.proofs.example.+list.Given as goal

abbrev pub decreases-item : goal.decreases-item
decreases-item l = 6 * l.room + 1

abbrev pub decreases-next_item : goal.decreases-next_item
decreases-next_item l = 6 * l.room + 2

abbrev pub decreases-some_items : goal.decreases-some_items
decreases-some_items l = 6 * l.room + 3

abbrev pub decreases-items : goal.decreases-items
decreases-items l = 6 * l.room + 4

abbrev pub decreases-list : goal.decreases-list
decreases-list l = 6 * l.room + 5

abbrev pub decreases-inner : goal.decreases-inner
decreases-inner l = 6 * l.room

-- behind the first item, so many items were read, each with a comma before it
abbrev pub invariant-some_items-loop-alloc : goal.invariant-some_items-loop-alloc
invariant-some_items-loop-alloc l = Going (is_of Comma) (behind_at Comma (item_at (inner_at l.room))) l.initial.entries l.initial.reader l.entries l.reader

abbrev pub decreases-some_items-loop-alloc : goal.decreases-some_items-loop-alloc
decreases-some_items-loop-alloc l = length l.reader
