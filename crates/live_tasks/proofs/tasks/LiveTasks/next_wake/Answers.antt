use Rattle.live_tasks.specs.InStep.{table_in}
use Rattle.live_tasks.proofs.WakingTasks.{least_kept}
use Rattle.live_tasks.proofs.tasks.LiveTasks.next_wake.Goals as goal

pub returns : goal.returns
returns c = λ now horizon cells found.
    least_kept now horizon cells c.args.self.now.tables.slots.slots (table_in c.args.self.now) c.args.self.now.tables.waits c.requires.live_.are found c.least_wake.result c.least_wake.ensures
