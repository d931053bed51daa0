use Rattle.std.proofs.Common.{◌≡◌, [], take, drop}
use Rattle.session_reader.specs.ClientNames.{repeated_client as repeated_client_by}
use Rattle.session_reader.proofs.clients.repeated_client.Given as goal

-- no client so far has the name of an earlier one
abbrev pub invariant-loop-number : goal.invariant-loop-number
invariant-loop-number l = repeated_client_by [] l.clients ≡ repeated_client_by (take l.number l.clients) (drop l.number l.clients)
