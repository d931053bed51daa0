use Rattle.session_reader.specs.Beginnings.{cell_begun}
use Rattle.diagnostics.specs.Iterations.{map_iteration}
use Rattle.session_reader.proofs.begun_models.cells_begun.Goals as goal

pub loop-cell-preserved : goal.loop-cell-preserved
loop-cell-preserved c =
    map_iteration (cell_begun c.args.enums.now c.args.beginnings.now)
    c.args.cells.now c.loop-cell.cell-index c.cell-item.result c.loop-cell-test.true c.cell-item.is
    _ _ _ _ c.in_ok-cell_begun.ensures c.in_ok-push.ensures.pushed c.loop-cell.invariant
