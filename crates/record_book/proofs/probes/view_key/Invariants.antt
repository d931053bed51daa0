use Rattle.std.proofs.Common.{◌≡◌, ℕ, List}
use Rattle.std.specs.Hash as writes
use Rattle.std.specs.Hash.FoldHasher as folding
use Rattle.effect_cells.specs.declared.effects.CellState.{CellState}
use Rattle.run_data.specs.Records.{Agrees}
use Rattle.record_book.specs.Ways.{cells_read}
use Rattle.record_book.proofs.Probing.{HasWritten}
use Rattle.record_book.proofs.probes.view_key.Given as goal

abbrev pub invariant-loop-cell : goal.invariant-loop-cell
invariant-loop-cell l =
    (reads : List (ℕ × CellState)) → cells_read reads ≡ l.cells → Agrees l.view reads →
    HasWritten folding.write folding.initial (writes.usize l.way) reads l.cell-index l.hasher
