use Rattle.parting.specs.IdRanges.{is_id_between}
use Rattle.live_tasks.specs.ListedSlots.{KeepsWaits}
use Rattle.live_tasks.proofs.JoinedAll.{HaveJoined}
use Rattle.live_tasks.proofs.tasks.LiveTasks.join_all.Given as goal

abbrev pub invariant-loop-directive : goal.invariant-loop-directive
invariant-loop-directive l =
    HaveJoined (is_id_between l.first l.past) l.model l.directives l.directive-index l.initial.self l.self × KeepsWaits l.initial.self.tables l.self.tables
