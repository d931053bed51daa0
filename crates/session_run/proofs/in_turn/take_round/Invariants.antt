use Rattle.std.proofs.Common.{map, ◌≤◌}
use Rattle.std.specs.String.{string_bytes}
use Rattle.session_run.specs.Missions.{AreBenchesOf}
use Rattle.session_run.specs.Rounds.{stand_at}
use Rattle.session_run.proofs.Rounds.{IsInRound}
use Rattle.session_run.proofs.in_turn.take_round.Given as goal

abbrev pub invariant-loop-which : goal.invariant-loop-which
invariant-loop-which g l =
    IsInRound l.workplace.mission.now l.workplace.lock.now l.clients l.number l.which (stand_at l.fn.pass l.fn.steps) (stand_at l.pass l.steps) (map string_bytes l.fn.texts.items) (map string_bytes l.texts.items)
    × (l.fn.steps ≤ l.steps)
    × AreBenchesOf l.workplace.mission.now l.clients l.benches.items
