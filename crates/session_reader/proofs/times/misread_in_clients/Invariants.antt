use Rattle.std.proofs.Common.{◌≡◌, drop}
use Rattle.session_reader.specs.Times.{misread_client, first_misread}
use Rattle.session_reader.proofs.times.misread_in_clients.Given as goal

-- those that were passed are instants
abbrev pub invariant-loop-client : goal.invariant-loop-client
invariant-loop-client l = first_misread misread_client l.clients ≡ first_misread misread_client (drop l.client-index l.clients)
