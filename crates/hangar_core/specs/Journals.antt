-- Journals: actions with what they answered, in order.
use Rattle.std.specs.Prelude.{◌≡◌, ℕ, ◌+◌, List, [], ◌∷◌, Option, Some, None}
use Rattle.hangar_core.specs.declared.actions.Action.{Action}
use Rattle.hangar_core.specs.declared.entries.Entry.{Entry}
use Rattle.hangar_core.specs.declared.replies.Reply.{Reply}
use Rattle.hangar_core.specs.declared.workspaces.Workspace.{Workspace}
use Rattle.hangar_core.specs.Replies.{accepted_with}
use Rattle.hangar_core.specs.Steps.{step}

-- entries with their replies, first to last
abbrev pub Entries : Type 0
Entries = List (Entry × Reply)

-- the entry of a client's part of a command, with its reply
abbrev pub noted_entry : ℕ → ℕ → ℕ → Action → Reply → Entry × Reply
noted_entry client command part action reply = (record { client = client; command = command; part = part; action = action }, reply)

-- those of a list that may not be begun
abbrev pub listed : Option Entries → Entries
listed None = []
listed (Some entries) = entries

-- how many of the actions were accepted
abbrev pub accepted_in : Entries → ℕ
accepted_in [] = 0
accepted_in (entry ∷ entries) = accepted_with entry.1 + accepted_in entries

-- each reply is what the workspace answers after all entries before it
abbrev pub IsReplay : Workspace → Entries → Type 0
IsReplay workspace [] = Unit {0}
IsReplay workspace (entry ∷ entries) =
    (entry.1 ≡ (step workspace entry.0.action).0) × IsReplay (step workspace entry.0.action).1 entries

-- the workspace after some entries
abbrev pub after_entries : Workspace → Entries → Workspace
after_entries workspace [] = workspace
after_entries workspace (entry ∷ entries) = after_entries (step workspace entry.0.action).1 entries
