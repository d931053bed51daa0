use Rattle.std.proofs.Common.{◌≤◌}
use Rattle.session_run.specs.Answers.{HasCountedUntil}
use Rattle.session_run.specs.Missions.{AreBenchesOf}
use Rattle.client_work.specs.Working.{IsAtWork}
use Rattle.session_run.proofs.counting.count_rounds.Given as goal

abbrev pub invariant-loop-number : goal.invariant-loop-number
invariant-loop-number g l =
    HasCountedUntil l.workplace.mission.now l.clients l.number 0 l.fn.pass l.pass l.summary
    × IsAtWork l.workplace.mission.now l.workplace.lock.now l.pass
    × (l.fn.steps ≤ l.steps)
    × AreBenchesOf l.workplace.mission.now l.clients l.benches.items
