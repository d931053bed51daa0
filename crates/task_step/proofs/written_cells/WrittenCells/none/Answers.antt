use Rattle.task_step.proofs.WrittenPlaces.{none_written}
use Rattle.task_step.proofs.written_cells.WrittenCells.none.Goals as goal

pub invariant_of-result : goal.invariant_of-result
invariant_of-result c = none_written c.new.result.items c.new-2.result.items c.new.ensures.items c.new-2.ensures.items
