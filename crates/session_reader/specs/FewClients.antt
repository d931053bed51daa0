-- How many clients a session has at most, and how many commands each of them.
use Rattle.std.specs.Prelude.{◌≤◌, List, length}
use Rattle.std.specs.List.{AllByRecursion}
use Rattle.session_grammar.specs.reading.Commands.{command_limit}
use Rattle.session_grammar.specs.reading.Sessions.{client_limit}
use Rattle.session_reader.specs.declared.session.Client.{Client}
use Rattle.session_reader.specs.declared.session.Session.{Session}

-- at most 16 clients, each with at most 4,096 commands
pub record AreFewClients (all : List Client) : Type 0 where
  pub clients : length all ≤ client_limit
  pub commands : AllByRecursion (λ client. length client.commands ≤ command_limit) all

abbrev pub HasFewClients : Session → Type 0
HasFewClients session = AreFewClients session.clients
