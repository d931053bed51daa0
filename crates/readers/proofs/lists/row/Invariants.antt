use Rattle.std.proofs.Common.{length}
use Rattle.readers.specs.Lists.{one_more_of}
use Rattle.readers.specs.Parsed.{is_one_of}
use Rattle.readers.proofs.Going.{Going}
use Rattle.readers.proofs.lists.row.Given as goal

-- so many were read
abbrev pub invariant-loop-alloc : goal.invariant-loop-alloc
invariant-loop-alloc g l =
    Going (is_one_of l.begin) (one_more_of l.fn.most g.E.Element.part_at) l.initial.parts l.initial.reader l.parts l.reader

abbrev pub decreases-loop-alloc : goal.decreases-loop-alloc
decreases-loop-alloc g l = length l.reader
