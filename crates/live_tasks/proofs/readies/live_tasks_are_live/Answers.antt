use Rattle.live_tasks.specs.InStep.{table_in}
use Rattle.live_tasks.proofs.LiveItself.{live_itself}
use Rattle.live_tasks.proofs.readies.live_tasks_are_live.Goals as goal

pub returns : goal.returns
returns c = λ tasks is. live_itself (table_in tasks) tasks.tables.slots.slots is.live_
