use Rattle.std.proofs.Common.{◌≡◌, take}
use Rattle.record_book.specs.Ways.{cells_read}
use Rattle.record_book.proofs.ways.read_cells.Given as goal

abbrev pub invariant-loop-read : goal.invariant-loop-read
invariant-loop-read l = l.cells ≡ cells_read (take l.read-index l.reads)
