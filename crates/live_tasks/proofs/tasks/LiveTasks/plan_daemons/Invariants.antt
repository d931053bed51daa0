use Rattle.std.proofs.Common.{◌≡◌}
use Rattle.live_tasks.specs.ListedSlots.{KeepsWaits}
use Rattle.live_tasks.proofs.PlannedAll.{HaveDaemons}
use Rattle.live_tasks.proofs.tasks.LiveTasks.plan_daemons.Given as goal

abbrev pub invariant-loop-daemon : goal.invariant-loop-daemon
invariant-loop-daemon l = (l.number ≡ l.daemon-index) × HaveDaemons l.daemons l.daemon-index l.initial.self l.self × KeepsWaits l.initial.self.tables l.self.tables
