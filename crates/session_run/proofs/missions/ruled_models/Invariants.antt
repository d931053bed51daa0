use Rattle.std.proofs.Common.{◌≡◌, ◌++◌, drop}
use Rattle.session_run.specs.Missions.{ruled_parts}
use Rattle.session_run.proofs.missions.ruled_models.Given as goal

abbrev pub invariant-loop-number : goal.invariant-loop-number
invariant-loop-number l = l.models ++ ruled_parts l.judged l.number (drop l.number l.judged.session.models) ≡ ruled_parts l.judged 0 l.judged.session.models
