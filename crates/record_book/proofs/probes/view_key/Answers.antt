use Rattle.std.proofs.Common.{get_or}
use Rattle.std.specs.Hash as writes
use Rattle.std.specs.Hash.FoldHasher as folding
use Rattle.record_book.proofs.Probing.{read_there, written_more}
use Rattle.record_book.proofs.probes.view_key.Goals as goal

pub loop-cell-preserved : goal.loop-cell-preserved
loop-cell-preserved c = λ reads same agrees.
    written_more folding.write folding.initial (writes.usize c.args.way) reads c.loop-cell.cell-index (get_or c.args.cells.now c.loop-cell.cell-index 0, c.state.result)
    c.loop-cell.hasher c.write_state.new.hasher
    (read_there c.args.view.now reads c.args.cells.now c.loop-cell.cell-index c.state.result same agrees c.loop-cell-test.true c.state.ensures)
    (c.loop-cell.invariant reads same agrees) c.write_state.ensures
