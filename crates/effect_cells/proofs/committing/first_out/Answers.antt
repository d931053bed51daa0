use Rattle.std.proofs.Common.{◌≡◌, ◌<◌, length, arith, ◌∙◌}
use Rattle.effect_cells.specs.TouchedCells.{is_good_at}
use Rattle.effect_cells.proofs.InRange.{each_is}
use Rattle.effect_cells.proofs.TouchedCells.{listed_within, next_found, all_looked_at, lowest_is_first}
use Rattle.effect_cells.proofs.committing.first_out.Goals as goal

pub bounds-states-at : goal.bounds-states-at
bounds-states-at c =
    omega (arith, c.requires.same, listed_within c.args.touched.now c.args.pending.now c.loop-cell.cell-index c.from-at.result c.requires.touches c.loop-cell-test.true c.from-at.ensures)

pub bounds-pending-at : goal.bounds-pending-at
bounds-pending-at c =
    omega (arith, listed_within c.args.touched.now c.args.pending.now c.loop-cell.cell-index c.from-at.result c.requires.touches c.loop-cell-test.true c.from-at.ensures)

pub applied_pending-requires-clause-range : goal.applied_pending-requires-clause-range
applied_pending-requires-clause-range c =
    let inside : c.from-at.result < length c.args.states.now =
    omega (arith, c.requires.same, listed_within c.args.touched.now c.args.pending.now c.loop-cell.cell-index c.from-at.result c.requires.touches c.loop-cell-test.true c.from-at.ensures) in
    each_is 0 c.args.states.now c.from-at.result c.index-states-at.result c.requires.range inside c.index-states-at.is

pub applied_pending-requires-clause-small : goal.applied_pending-requires-clause-small
applied_pending-requires-clause-small c =
    c.requires.small c.from-at.result c.index-pending-at.result
    (listed_within c.args.touched.now c.args.pending.now c.loop-cell.cell-index c.from-at.result c.requires.touches c.loop-cell-test.true c.from-at.ensures)
    c.index-pending-at.is

pub loop-cell-preserved : goal.loop-cell-preserved
loop-cell-preserved c =
    let inside : c.from-at.result < length c.args.states.now =
    omega (arith, c.requires.same, listed_within c.args.touched.now c.args.pending.now c.loop-cell.cell-index c.from-at.result c.requires.touches c.loop-cell-test.true c.from-at.ensures) in
    next_found c.args.states.now c.args.pending.now c.args.touched.now c.loop-cell.cell-index c.from-at.result c.index-states-at.result c.applied_pending.result c.index-pending-at.result
    c.is_in_range-good.result c.loop-cell.first c.lower-first.result _ c.requires.same c.loop-cell-test.true inside c.from-at.ensures c.index-states-at.is c.index-pending-at.is
    c.applied_pending.ensures c.is_in_range-good.ensures c.lower-first.ensures c.loop-cell.invariant

pub returns : goal.returns
returns c =
    let last : c.loop-cell.cell-index ≡ length c.args.touched.now = omega arith in
    all_looked_at (is_good_at c.args.states.now c.args.pending.now) c.args.touched.now c.loop-cell.cell-index c.loop-cell.first _ last c.loop-cell.invariant
    ∙ lowest_is_first c.args.states.now c.args.pending.now c.args.touched.now c.requires.same c.requires.range c.requires.touches
