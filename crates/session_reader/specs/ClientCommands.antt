-- The commands of clients, as the workspace takes them.
use Rattle.std.specs.Prelude.{ℤ, List, map}
use Rattle.commands.specs.declared.commands.Command.{Command}
use Rattle.commands.specs.declared.commands.Command.TheVariants as command
use Rattle.commands.specs.declared.edits.Edit.TheVariants as edit
use Rattle.session_grammar.specs.declared.raw.clients.RawClient.{RawClient}
use Rattle.session_grammar.specs.declared.raw.clients.RawCommand.{RawCommand}
use Rattle.session_grammar.specs.declared.raw.clients.RawCommand.TheVariants as raw
use Rattle.session_reader.specs.declared.session.Client.{Client}
use Rattle.session_reader.specs.Quotes.{unquoted}
use Rattle.session_reader.specs.Times.{when_meant}

-- the command that is meant, with the start of the plans: of a text its part between the backquotes
abbrev pub command_meant : ℤ → RawCommand → Command
command_meant start (raw.New branch) = command.New branch
command_meant start (raw.Fork branch source) = command.Fork branch source
command_meant start (raw.Drop branch) = command.Drop branch
command_meant start (raw.Add branch at given) = command.Edit branch (edit.Add (when_meant start at) given.kind given.arguments)
command_meant start (raw.Remove branch id) = command.Edit branch (edit.Remove id)
command_meant start (raw.Move branch id at) = command.Edit branch (edit.Move id (when_meant start at))
command_meant start (raw.Set branch id argument) = command.Edit branch (edit.Set id argument.name argument.value)
command_meant start (raw.Load branch text) = command.Edit branch (edit.Load (unquoted 96 text))
command_meant start (raw.Migrate branch model) = command.Migrate branch model
command_meant start (raw.Show branch) = command.Show branch
command_meant start (raw.Simulate branch) = command.Simulate branch
command_meant start (raw.Schedule branch) = command.Schedule branch
command_meant start (raw.Merge branch source base) = command.Merge branch source base
command_meant start (raw.Expand branch) = command.Expand branch

abbrev pub client_meant : ℤ → RawClient → Client
client_meant start client = record { name = client.name; commands = map (command_meant start) client.commands }

abbrev pub clients_meant : ℤ → List RawClient → List Client
clients_meant start clients = map (client_meant start) clients
