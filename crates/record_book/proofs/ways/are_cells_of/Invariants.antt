use Rattle.std.proofs.Common.{◌≡◌, take}
use Rattle.record_book.specs.Ways.{cells_read}
use Rattle.record_book.proofs.ways.are_cells_of.Given as goal

abbrev pub invariant-loop-at : goal.invariant-loop-at
invariant-loop-at l = take l.at l.cells ≡ take l.at (cells_read l.reads)
