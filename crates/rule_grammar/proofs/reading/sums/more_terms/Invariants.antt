use Rattle.std.proofs.Common.{◌≤◌, length}
use Rattle.readers.proofs.Going.{Going}
use Rattle.rule_grammar.specs.reading.Sums.{is_sum_sign, next_term_at}
use Rattle.rule_grammar.proofs.reading.sums.more_terms.Given as goal

-- so many terms were read
abbrev pub invariant-loop-alloc : goal.invariant-loop-alloc
invariant-loop-alloc l = Going is_sum_sign (next_term_at l.fn.room) l.initial.sum l.initial.reader l.sum l.reader × (l.sum.height ≤ l.fn.room)

abbrev pub decreases-loop-alloc : goal.decreases-loop-alloc
decreases-loop-alloc l = length l.reader
