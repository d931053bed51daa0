use Rattle.std.proofs.Common.{length}
use Rattle.readers.proofs.Going.{Going}
use Rattle.model_reader.specs.reading.Items.{begins_item, item_at}
use Rattle.model_reader.proofs.reading.items.declarations.Given as goal

-- so many items were read
abbrev pub invariant-loop-alloc : goal.invariant-loop-alloc
invariant-loop-alloc l =
    Going begins_item item_at l.initial.declared l.initial.reader l.declared l.reader

abbrev pub decreases-loop-alloc : goal.decreases-loop-alloc
decreases-loop-alloc l = length l.reader
