-- The line of a session that is accepted.
use Rattle.std.specs.Prelude.{ℕ, ◌+◌, List, [], ◌∷◌, codes, length}
use Rattle.serde_json.specs.Data.{Data, member, no_members, object, string}
use Rattle.json_line.specs.Numbers.{natural_data}
use Rattle.session_reader.specs.declared.session.Client.{Client}
use Rattle.session_reader.specs.declared.session.Session.{Session}

-- how many commands all clients have
abbrev pub command_count : List Client → ℕ
command_count [] = 0
command_count (client ∷ clients) = length client.commands + command_count clients

-- so many clients and commands of a session that is good
abbrev pub counts_data : ℕ → ℕ → Data
counts_data clients commands =
    object (member (codes "clients") (natural_data clients)
    (member (codes "commands") (natural_data commands)
    (member (codes "session") (string (codes "ok")) no_members)))

-- a session that is good
abbrev pub accepted_data : Session → Data
accepted_data session = counts_data (length session.clients) (command_count session.clients)
