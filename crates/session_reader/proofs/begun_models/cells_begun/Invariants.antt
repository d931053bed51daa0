use Rattle.std.proofs.Common.{◌≡◌, ◌++◌, map, drop}
use Rattle.session_reader.specs.Beginnings.{cell_begun}
use Rattle.session_reader.proofs.begun_models.cells_begun.Given as goal

abbrev pub invariant-loop-cell : goal.invariant-loop-cell
invariant-loop-cell l = l.made ++ map (cell_begun l.enums l.beginnings) (drop l.cell-index l.cells) ≡ map (cell_begun l.enums l.beginnings) l.cells
