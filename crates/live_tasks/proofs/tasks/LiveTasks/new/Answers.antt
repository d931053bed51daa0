use Rattle.std.proofs.Common.{sym, subst}
use Rattle.live_tasks.specs.ListedSlots.{AreWaitsKeptFor}
use Rattle.live_tasks.proofs.tasks.LiveTasks.new.Goals as goal

pub returns-clause-waits : goal.returns-clause-waits
returns-clause-waits c = subst (AreWaitsKeptFor c.args.cells) (sym c.with_followers.ensures.tables) c.in_ok-tables.ensures.kept
