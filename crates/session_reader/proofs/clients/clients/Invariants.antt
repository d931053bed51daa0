use Rattle.std.proofs.Common.{◌≡◌, ◌++◌, map, drop}
use Rattle.session_reader.specs.ClientCommands.{client_meant}
use Rattle.session_reader.proofs.clients.clients.Given as goal

abbrev pub invariant-loop-one : goal.invariant-loop-one
invariant-loop-one l = l.made ++ map (client_meant l.start) (drop l.one-index l.raw) ≡ map (client_meant l.start) l.raw
