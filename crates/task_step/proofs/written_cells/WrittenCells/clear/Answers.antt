use Rattle.task_step.proofs.WrittenPlaces.{none_written}
use Rattle.task_step.proofs.written_cells.WrittenCells.clear.Goals as goal

pub invariant_of-self : goal.invariant_of-self
invariant_of-self c = none_written c.clear.new.self.items c.clear-2.new.self.items c.clear.ensures.items c.clear-2.ensures.items
