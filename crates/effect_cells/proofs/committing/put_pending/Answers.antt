use Rattle.std.proofs.Common.{◌≡◌, ◌<◌, length, arith, ◌∙◌, sym}
use Rattle.effect_cells.specs.Cells.{AreInRange}
use Rattle.effect_cells.specs.Pending.{with_pending}
use Rattle.effect_cells.proofs.InRange.{each_is}
use Rattle.effect_cells.proofs.TouchedCells.{listed_within, covers_more, covers_none, put_at_once, range_more, small_more, nothing_changes}
use Rattle.effect_cells.proofs.committing.put_pending.Goals as goal

pub bounds-states-at : goal.bounds-states-at
bounds-states-at c =
    omega (arith, c.requires.same, listed_within c.args.touched.now c.args.pending.now c.loop-cell.cell-index c.from-at.result c.requires.touches c.loop-cell-test.true c.from-at.ensures)

pub bounds-pending-at : goal.bounds-pending-at
bounds-pending-at c =
    omega (arith, listed_within c.args.touched.now c.args.pending.now c.loop-cell.cell-index c.from-at.result c.requires.touches c.loop-cell-test.true c.from-at.ensures)

pub bounds-states-at-in-loop-cell : goal.bounds-states-at-in-loop-cell
bounds-states-at-in-loop-cell c =
    omega (arith, c.requires.same, listed_within c.args.touched.now c.args.pending.now c.loop-cell.cell-index c.from-at.result c.requires.touches c.loop-cell-test.true c.from-at.ensures)

pub bounds-pending-at-in-loop-cell : goal.bounds-pending-at-in-loop-cell
bounds-pending-at-in-loop-cell c =
    omega (arith, listed_within c.args.touched.now c.args.pending.now c.loop-cell.cell-index c.from-at.result c.requires.touches c.loop-cell-test.true c.from-at.ensures)

pub applied_pending-requires-clause-range : goal.applied_pending-requires-clause-range
applied_pending-requires-clause-range c =
    let inside : c.from-at.result < length c.loop-cell.states =
    omega (arith, c.requires.same, listed_within c.args.touched.now c.args.pending.now c.loop-cell.cell-index c.from-at.result c.requires.touches c.loop-cell-test.true c.from-at.ensures) in
    rw (← c.index-states-at.is) (each_is 0 c.loop-cell.states c.from-at.result c.index-states-at.result c.loop-cell.invariant.range inside c.index-states-at.is)

pub applied_pending-requires-clause-small : goal.applied_pending-requires-clause-small
applied_pending-requires-clause-small c =
    let inside : c.from-at.result < length c.loop-cell.pending =
    omega (arith, listed_within c.args.touched.now c.args.pending.now c.loop-cell.cell-index c.from-at.result c.requires.touches c.loop-cell-test.true c.from-at.ensures) in
    rw (← c.index-pending-at.is) (c.loop-cell.invariant.small c.from-at.result c.index-pending-at.result inside c.index-pending-at.is)

pub loop-cell-preserved : goal.loop-cell-preserved
loop-cell-preserved c =
    let inside : c.from-at.result < length c.loop-cell.pending =
    omega (arith, listed_within c.args.touched.now c.args.pending.now c.loop-cell.cell-index c.from-at.result c.requires.touches c.loop-cell-test.true c.from-at.ensures) in
    let same : length c.loop-cell.pending ≡ length c.loop-cell.states = omega (arith, c.requires.same) in
    let within : c.from-at.result < length c.loop-cell.states = omega (arith, same, inside) in
    let good : AreInRange (with_pending c.loop-cell.states c.loop-cell.pending) = rw c.loop-cell.invariant.whole c.requires.good in
    record {
      whole =
          put_at_once c.loop-cell.states c.loop-cell.pending c.from-at.result c.index-states-at.result c.applied_pending.result c.index-pending-at.result c.nothing.result same within c.applied_pending.ensures c.nothing.ensures
          ∙ c.loop-cell.invariant.whole;
      range =
          range_more c.loop-cell.states c.loop-cell.pending c.from-at.result c.index-states-at.result c.applied_pending.result c.index-pending-at.result same within c.applied_pending.ensures
          c.loop-cell.invariant.range good;
      small = small_more c.loop-cell.pending c.from-at.result c.nothing.result inside c.nothing.ensures c.loop-cell.invariant.small;
      rest =
          covers_more c.args.touched.now c.loop-cell.cell-index c.from-at.result c.nothing.result c.loop-cell.pending c.loop-cell-test.true c.from-at.ensures inside c.nothing.ensures c.loop-cell.invariant.rest;
    }

pub returns-clause-committed : goal.returns-clause-committed
returns-clause-committed c =
    let last : c.loop-cell.cell-index ≡ length c.args.touched.now = omega arith in
    let same : length c.loop-cell.pending ≡ length c.loop-cell.states = omega (arith, c.requires.same) in
    sym (nothing_changes c.loop-cell.states c.loop-cell.pending same (covers_none c.args.touched.now c.loop-cell.cell-index c.loop-cell.pending last c.loop-cell.invariant.rest))
    ∙ c.loop-cell.invariant.whole

pub returns-clause-blank : goal.returns-clause-blank
returns-clause-blank c =
    let last : c.loop-cell.cell-index ≡ length c.args.touched.now = omega arith in
    covers_none c.args.touched.now c.loop-cell.cell-index c.loop-cell.pending last c.loop-cell.invariant.rest
