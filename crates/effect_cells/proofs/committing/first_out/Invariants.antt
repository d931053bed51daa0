use Rattle.std.proofs.Common.{◌≡◌, drop, None}
use Rattle.effect_cells.specs.TouchedCells.{lowest, is_good_at}
use Rattle.effect_cells.proofs.committing.first_out.Given as goal

-- with the cells that are left, the lowest of all of them is found
abbrev pub invariant-loop-cell : goal.invariant-loop-cell
invariant-loop-cell l = lowest (is_good_at l.states l.pending) l.first (drop l.cell-index l.touched) ≡ lowest (is_good_at l.states l.pending) None l.touched
