use Rattle.std.proofs.Common.{◌≡◌, ◌++◌, map, drop}
use Rattle.session_reader.specs.ClientCommands.{command_meant}
use Rattle.session_reader.proofs.clients.commands.Given as goal

abbrev pub invariant-loop-one : goal.invariant-loop-one
invariant-loop-one l = l.made ++ map (command_meant l.start) (drop l.one-index l.raw) ≡ map (command_meant l.start) l.raw
