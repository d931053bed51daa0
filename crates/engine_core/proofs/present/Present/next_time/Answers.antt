use Rattle.std.proofs.Common.{◌∙◌, Some, sym, ap}
use Rattle.run_data.specs.Fresh.{below}
use Rattle.live_tasks.specs.InStep.{table_in}
use Rattle.engine_core.proofs.PassingTime.{least_is}
use Rattle.engine_core.proofs.present.Present.next_time.Goals as goal

pub returns : goal.returns
returns c =
    c.before-2.ensures
    ∙ ap (below c.args.end)
    (least_is c.due_splits.ensures.splits c.args.self.now.time c.args.end c.args.self.now.cells (table_in c.args.self.now.tasks)
    c.next_delay.result c.next_wake.result (Some c.in_ok-time.time) c.next_delay.ensures
    (c.next_wake.ensures c.args.self.now.time c.args.end c.args.self.now.cells c.requires.found) (sym c.in_ok-time.was ∙ c.earlier.ensures))
