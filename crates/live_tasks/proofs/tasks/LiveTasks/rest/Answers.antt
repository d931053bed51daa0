use Rattle.std.specs.BinaryHeap.{heap_items}
use Rattle.live_tasks.specs.InStep.{table_in}
use Rattle.live_tasks.proofs.LeastTimes.{none_ends_before}
use Rattle.live_tasks.proofs.Resting.{changed_table, changed_live, changed_followers, rested_mild}
use Rattle.live_tasks.proofs.tasks.LiveTasks.rest.Goals as goal

pub rest-requires-clause-none_before : goal.rest-requires-clause-none_before
rest-requires-clause-none_before c =
    none_ends_before c.args.self.now.tables.slots.slots (table_in c.args.self.now) (heap_items c.args.self.now.tables.delays) c.requires.in_step.live_.are c.requires.in_step.listed.all.delays_ c.args.now c.requires.due

pub returns-clause-table : goal.returns-clause-table
returns-clause-table c = changed_table _ (rested_mild c.args.now) _ _ c.in_ok-rest.ensures.are c.requires.in_step.live_

pub returns-clause-in_step : goal.returns-clause-in_step
returns-clause-in_step c = record {
  live_ = changed_live _ (rested_mild c.args.now) _ _ c.in_ok-rest.ensures.are c.requires.in_step.live_;
  followers_ = changed_followers _ (rested_mild c.args.now) _ _ _ c.in_ok-rest.ensures.are c.requires.in_step.followers_;
  listed = c.in_ok-rest.ensures.listed;
}
