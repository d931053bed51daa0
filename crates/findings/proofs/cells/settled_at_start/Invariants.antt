-- The cells so far.
use Rattle.std.proofs.Common.{◌≡◌, map, take}
use Rattle.effect_cells.specs.Cells.{first_state}
use Rattle.findings.specs.SettledStates.{settled_at_start}
use Rattle.findings.proofs.cells.settled_at_start.Given as goal

abbrev pub invariant-loop-cell : goal.invariant-loop-cell
invariant-loop-cell l = l.states.items ≡ settled_at_start (map (λ cell. first_state cell.1) (take l.cell-index l.cells))
