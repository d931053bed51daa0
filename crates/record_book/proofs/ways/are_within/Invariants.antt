use Rattle.std.proofs.Common.{ℕ, ◌<◌, get_or}
use Rattle.record_book.proofs.ways.are_within.Given as goal

abbrev pub invariant-loop-cell : goal.invariant-loop-cell
invariant-loop-cell l = (at other : ℕ) → at < l.cell-index → get_or l.cells at other < l.count
