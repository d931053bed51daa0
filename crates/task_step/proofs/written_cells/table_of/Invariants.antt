use Rattle.task_step.proofs.WrittenPlaces.{PlacedBefore}
use Rattle.task_step.proofs.written_cells.table_of.Given as goal

-- the cells so far have their places
abbrev pub invariant-loop-place : goal.invariant-loop-place
invariant-loop-place l = PlacedBefore l.place l.cells l.table.items
