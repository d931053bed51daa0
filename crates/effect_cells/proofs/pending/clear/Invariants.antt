use Rattle.std.proofs.Common.{drop}
use Rattle.effect_cells.specs.TouchedCells.{CoversPending}
use Rattle.effect_cells.proofs.pending.clear.Given as goal

-- what is pending is on the cells that are left
abbrev pub invariant-loop-cell : goal.invariant-loop-cell
invariant-loop-cell l = CoversPending (drop l.cell-index l.touched) l.pending
