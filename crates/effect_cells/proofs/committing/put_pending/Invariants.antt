use Rattle.std.proofs.Common.{◌≡◌, drop}
use Rattle.effect_cells.specs.Cells.{AreInRange}
use Rattle.effect_cells.specs.Pending.{with_pending, AreSmallPending}
use Rattle.effect_cells.specs.TouchedCells.{CoversPending}
use Rattle.effect_cells.proofs.committing.put_pending.Given as goal

-- the cells with what is still pending are those with all that was, and it is pending on the cells that are left
abbrev pub invariant-loop-cell : goal.invariant-loop-cell
invariant-loop-cell l = record {
  whole : with_pending l.states l.pending ≡ with_pending l.initial.states l.initial.pending;
  range : AreInRange l.states;
  small : AreSmallPending l.pending;
  rest : CoversPending (drop l.cell-index l.touched) l.pending;
}
