use Rattle.std.proofs.Common.{◌≡◌}
use Rattle.measure_books.proofs.figures.time_take_in.Given as goal

abbrev pub invariant-loop-chapter : goal.invariant-loop-chapter
invariant-loop-chapter g l = l.book.model ≡ l.initial.book.model
