use Rattle.std.proofs.Common.{◌≡◌, ◌<◌, length, arith}
use Rattle.effect_cells.proofs.TouchedCells.{listed_within, covers_more, covers_none}
use Rattle.effect_cells.proofs.pending.clear.Goals as goal

pub bounds-pending-at : goal.bounds-pending-at
bounds-pending-at c =
    omega (arith, listed_within c.args.touched.now c.args.pending.now c.loop-cell.cell-index c.from-at.result c.requires c.loop-cell-test.true c.from-at.ensures)

pub loop-cell-preserved : goal.loop-cell-preserved
loop-cell-preserved c =
    let inside : c.from-at.result < length c.loop-cell.pending =
    omega (arith, listed_within c.args.touched.now c.args.pending.now c.loop-cell.cell-index c.from-at.result c.requires c.loop-cell-test.true c.from-at.ensures) in
    covers_more c.args.touched.now c.loop-cell.cell-index c.from-at.result _ c.loop-cell.pending c.loop-cell-test.true c.from-at.ensures inside c.nothing.ensures c.loop-cell.invariant

pub returns-clause-blank : goal.returns-clause-blank
returns-clause-blank c =
    let last : c.loop-cell.cell-index ≡ length c.args.touched.now = omega arith in
    covers_none c.args.touched.now c.loop-cell.cell-index c.loop-cell.pending last c.loop-cell.invariant
