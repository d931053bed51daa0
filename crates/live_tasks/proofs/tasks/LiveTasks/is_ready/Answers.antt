use Rattle.live_tasks.specs.InStep.{table_in}
use Rattle.live_tasks.proofs.ReadyOrNone.{no_jobs, some_job}
use Rattle.live_tasks.proofs.tasks.LiveTasks.is_ready.Goals as goal

pub returns-clause-none : goal.returns-clause-none
returns-clause-none c = λ e cells. no_jobs c.args.self.now.tables.slots.slots (table_in c.args.self.now) c.requires.live_.are (c.is_ready.ensures.none e) cells

pub returns-clause-some : goal.returns-clause-some
returns-clause-some c = λ e cells none.
    let one = c.is_ready.ensures.some e in
    some_job c.args.self.now.tables.slots.slots (table_in c.args.self.now) c.requires.live_.are one.0 one.1 cells none
