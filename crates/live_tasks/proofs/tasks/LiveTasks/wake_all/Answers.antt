use Rattle.live_tasks.proofs.Resting.{changed_table, changed_live, changed_followers}
use Rattle.live_tasks.proofs.WakingTasks.{solvable_slots}
use Rattle.live_tasks.proofs.Woken.{woken_mild}
use Rattle.live_tasks.proofs.tasks.LiveTasks.wake_all.Goals as goal

pub wake_all-requires-clause-waits : goal.wake_all-requires-clause-waits
wake_all-requires-clause-waits c = solvable_slots _ _ _ c.requires.in_step.live_.are c.requires.waits

pub wake_all-requires-clause-listed : goal.wake_all-requires-clause-listed
wake_all-requires-clause-listed c = c.requires.in_step.listed

pub returns-clause-table : goal.returns-clause-table
returns-clause-table c = changed_table _ (woken_mild c.args.cells.now) _ _ c.in_ok-wake_all.ensures.are c.requires.in_step.live_

pub returns-clause-in_step : goal.returns-clause-in_step
returns-clause-in_step c = record {
  live_ = changed_live _ (woken_mild c.args.cells.now) _ _ c.in_ok-wake_all.ensures.are c.requires.in_step.live_;
  followers_ = changed_followers _ (woken_mild c.args.cells.now) _ _ _ c.in_ok-wake_all.ensures.are c.requires.in_step.followers_;
  listed = c.in_ok-wake_all.ensures.listed;
}
