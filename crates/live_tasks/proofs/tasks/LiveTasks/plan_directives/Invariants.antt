use Rattle.live_tasks.specs.ListedSlots.{KeepsWaits}
use Rattle.live_tasks.proofs.PlannedAll.{HaveDirectives}
use Rattle.live_tasks.proofs.tasks.LiveTasks.plan_directives.Given as goal

abbrev pub invariant-loop-directive : goal.invariant-loop-directive
invariant-loop-directive l = HaveDirectives l.model l.directives l.directive-index l.initial.self l.self × KeepsWaits l.initial.self.tables l.self.tables
