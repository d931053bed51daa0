use Rattle.std.proofs.Common.{◌≤◌}
use Rattle.session_run.specs.Missions.{AreBenchesOf}
use Rattle.session_run.proofs.Counted.{IsInCount}
use Rattle.session_run.proofs.counting.count_round.Given as goal

abbrev pub invariant-loop-which : goal.invariant-loop-which
invariant-loop-which g l =
    IsInCount l.workplace.mission.now l.workplace.lock.now l.clients l.number l.which l.fn.pass l.pass l.fn.summary l.summary
    × (l.fn.steps ≤ l.steps)
    × AreBenchesOf l.workplace.mission.now l.clients l.benches.items
