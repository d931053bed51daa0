use Rattle.std.proofs.Common.{length}
use Rattle.aerie_text.specs.declared.sorts.Sort.TheVariants.{Comma}
use Rattle.readers.specs.Lists.{pushed_at}
use Rattle.readers.specs.Parsed.{is_of, behind_at}
use Rattle.readers.proofs.Going.{Going}
use Rattle.readers.proofs.lists.separated.Given as goal

-- behind the first part, so many were read, each with a comma before it
abbrev pub invariant-loop-alloc : goal.invariant-loop-alloc
invariant-loop-alloc g l = Going (is_of Comma) (behind_at Comma (pushed_at g.E.Element.part_at)) l.initial.parts l.initial.reader l.parts l.reader

abbrev pub decreases-loop-alloc : goal.decreases-loop-alloc
decreases-loop-alloc g l = length l.reader
