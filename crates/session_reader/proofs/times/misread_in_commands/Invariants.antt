use Rattle.std.proofs.Common.{◌≡◌, drop}
use Rattle.session_reader.specs.Times.{misread_command, first_misread}
use Rattle.session_reader.proofs.times.misread_in_commands.Given as goal

-- those that were passed are instants
abbrev pub invariant-loop-command : goal.invariant-loop-command
invariant-loop-command l = first_misread misread_command l.commands ≡ first_misread misread_command (drop l.command-index l.commands)
