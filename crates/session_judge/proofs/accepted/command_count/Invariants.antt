use Rattle.std.proofs.Common.{◌≡◌, ◌+◌, drop}
use Rattle.session_judge.specs.Accepted.{command_count}
use Rattle.session_judge.proofs.accepted.command_count.Given as goal

-- what was counted, with what is left, is what all come to
abbrev pub invariant-loop-client : goal.invariant-loop-client
invariant-loop-client l = l.count + command_count (drop l.client-index l.clients) ≡ command_count l.clients
