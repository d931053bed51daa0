use Rattle.std.proofs.Common.{◌≡◌, max, drop}
use Rattle.hangar_core.specs.Serial.{longest}
use Rattle.session_run.specs.Missions.{all_commands}
use Rattle.session_run.proofs.in_turn.longest_of.Given as goal

abbrev pub invariant-loop-client : goal.invariant-loop-client
invariant-loop-client l = max l.most (longest (all_commands (drop l.client-index l.clients))) ≡ longest (all_commands l.clients)
