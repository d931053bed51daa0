-- The text that is printed along a journal.
use Rattle.std.specs.Prelude.{ℕ, suc, ◌+◌, List, [], ◌∷◌, ◌++◌}
use Rattle.std.specs.List.{filter}
use Rattle.json_line.specs.Json.{line_of}
use Rattle.hangar_core.specs.Fits.{is_of_client}
use Rattle.hangar_core.specs.Journals.{Entries}
use Rattle.report_text.specs.JournalLines.{journal_data}
use Rattle.session_reader.specs.declared.session.Client.{Client}
use Rattle.session_judge.specs.declared.judged.JudgedSession.{JudgedSession}
use Rattle.client_work.specs.declared.missions.Mission.{Mission}
use Rattle.client_work.specs.declared.missions.ReportForm.{ReportForm}
use Rattle.client_work.specs.Lines.{ArePaidFor, ClientOf, told_text}
use Rattle.session_run.specs.Missions.{mission_of}

-- a client with its number
abbrev pub client_numbered : ℕ → Client → ClientOf
client_numbered number client = record { name = client.name; number = number }

-- what is told of all commands of clients, client by client, counted from a number: each client's by its own entries in the
-- journal, with how many statements each of its commands ran
abbrev pub clients_text : Mission → (ℕ → ℕ → ℕ) → Entries → ℕ → List Client → List ℕ
clients_text mission counts journal number [] = []
clients_text mission counts journal number (client ∷ clients) =
    told_text mission (client_numbered number client) (counts 0) (filter (is_of_client number) journal) 0 client.commands
    ++ clients_text mission (λ later. counts (suc later)) journal (number + 1) clients

-- each of these counts is one that its command may tell, by what was replied to it in the journal
abbrev pub AreAllPaidFor : Mission → (ℕ → ℕ → ℕ) → Entries → ℕ → List Client → Type 0
AreAllPaidFor mission counts journal number [] = Unit {0}
AreAllPaidFor mission counts journal number (client ∷ clients) =
    ArePaidFor mission (counts 0) (filter (is_of_client number) journal) 0 client.commands
    × AreAllPaidFor mission (λ later. counts (suc later)) journal (number + 1) clients

-- the text of a session along a journal: whose part of which command each entry is, and what is told of all commands
abbrev pub session_text : JudgedSession → ℕ → ReportForm → (ℕ → ℕ → ℕ) → Entries → List ℕ
session_text judged bound form counts journal =
    line_of (journal_data journal) ++ clients_text (mission_of judged bound form) counts journal 0 judged.session.clients
