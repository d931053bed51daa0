use Rattle.std.proofs.Common.{length}
use Rattle.readers.proofs.Going.{Going}
use Rattle.readers.specs.Lists.{pushed_at}
use Rattle.readers.specs.Parsed.{is_of}
use Rattle.session_grammar.proofs.reading.sections.sections_with.Given as goal
use Rattle.session_grammar.specs.reading.Sections.{section_at}

-- so many sections were read
abbrev pub invariant-loop-alloc : goal.invariant-loop-alloc
invariant-loop-alloc l = Going (is_of l.sort) (pushed_at (section_at l.sort l.count)) l.initial.sections l.initial.reader l.sections l.reader

abbrev pub decreases-loop-alloc : goal.decreases-loop-alloc
decreases-loop-alloc l = length l.reader
