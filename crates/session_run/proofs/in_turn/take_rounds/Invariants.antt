use Rattle.std.proofs.Common.{map, ◌≤◌}
use Rattle.std.specs.String.{string_bytes}
use Rattle.session_run.specs.Missions.{AreBenchesOf}
use Rattle.session_run.specs.Rounds.{HasDoneUntil, stand_at}
use Rattle.client_work.specs.Working.{IsAtWork}
use Rattle.session_run.proofs.in_turn.take_rounds.Given as goal

abbrev pub invariant-loop-number : goal.invariant-loop-number
invariant-loop-number g l =
    HasDoneUntil l.workplace.mission.now l.clients l.number 0 (stand_at l.fn.pass l.fn.steps) (stand_at l.pass l.steps) (map string_bytes l.texts.items)
    × IsAtWork l.workplace.mission.now l.workplace.lock.now l.pass
    × (l.fn.steps ≤ l.steps)
    × AreBenchesOf l.workplace.mission.now l.clients l.benches.items
