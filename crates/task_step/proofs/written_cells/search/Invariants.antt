use Rattle.std.proofs.Common.{◌≡◌, drop}
use Rattle.task_step.specs.Overlays.{written_state}
use Rattle.task_step.proofs.written_cells.search.Given as goal

-- the cell is not among those so far
abbrev pub invariant-loop-place : goal.invariant-loop-place
invariant-loop-place l = written_state l.cell l.cells ≡ written_state l.cell (drop l.place l.cells)
