use Rattle.live_tasks.specs.Conditions.{condition_at}
use Rattle.live_tasks.proofs.KeptWaits.{kept_touched}
use Rattle.live_tasks.proofs.tasks.LiveTasks.after_batch.Goals as goal

pub returns-clause-in_step : goal.returns-clause-in_step
returns-clause-in_step c = record { live_ = c.in_ok-go_on.ensures.in_step.live_; followers_ = c.in_ok-go_on.ensures.in_step.followers_; listed = c.in_ok-go_on.ensures.in_step.listed }

pub returns-clause-kept : goal.returns-clause-kept
returns-clause-kept c = λ now horizon cells others kept agree.
    kept_touched now horizon cells others (condition_at c.go_on.new.self.tables.slots.slots) c.args.touched.now c.go_on.new.self.tables.waits c.touch.new.self c.waiting_depends_on_cells_read.ensures.wakes
    c.in_ok-touch.ensures agree (c.in_ok-go_on.ensures.waits now horizon cells kept)
