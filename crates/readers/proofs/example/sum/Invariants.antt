use Rattle.std.proofs.Common.{length}
use Rattle.readers.specs.Entries.{is_sign, more_at}
use Rattle.readers.proofs.Going.{Going}
use Rattle.readers.proofs.example.sum.Given as goal

-- behind the first term, so many terms were read
abbrev pub invariant-loop-reader : goal.invariant-loop-reader
invariant-loop-reader l = Going is_sign more_at l.initial.terms l.initial.reader l.terms l.reader

abbrev pub decreases-loop-reader : goal.decreases-loop-reader
decreases-loop-reader l = length l.reader
