use Rattle.std.specs.BinaryHeap.{heap_items}
use Rattle.live_tasks.specs.InStep.{table_in}
use Rattle.live_tasks.proofs.LeastTimes.{least_end_is}
use Rattle.live_tasks.proofs.tasks.LiveTasks.next_delay.Goals as goal

pub returns : goal.returns
returns c = least_end_is c.args.self.now.tables.slots.slots (table_in c.args.self.now) (heap_items c.args.self.now.tables.delays) c.requires.live_.are c.requires.listed.all.delays_ c.least_end.result c.least_end.ensures
