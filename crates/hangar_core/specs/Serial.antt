-- The journal of clients in rounds, each command whole.
use Rattle.std.specs.Prelude.{ℕ, zero, suc, ◌+◌, List, [], ◌∷◌, ◌++◌, length, map, max, Option, Some, None}
use Rattle.hangar_core.specs.declared.actions.Action.{Action}
use Rattle.commands.specs.declared.commands.Command.{Command}
use Rattle.hangar_core.specs.declared.replies.Reply.{Reply}
use Rattle.hangar_core.specs.declared.workspaces.Workspace.{Workspace}
use Rattle.hangar_core.specs.Fits.{Meanings, next_action}
use Rattle.hangar_core.specs.Journals.{Entries}
use Rattle.hangar_core.specs.Steps.{step}

-- a client's command, with its number
pub record NumberedCommand : Type 0 where
  pub client : ℕ
  pub number : ℕ
  pub command : Command

-- ---- whose command it is

-- a round: the first command of each client that has one, counted from a client
abbrev pub heads : ℕ → ℕ → List (List Command) → List NumberedCommand
heads number client [] = []
heads number client ([] ∷ others) = heads number (client + 1) others
heads number client ((command ∷ commands) ∷ others) =
    record { client = client; number = number; command = command } ∷ heads number (client + 1) others

abbrev pub later_commands : List Command → List Command
later_commands [] = []
later_commands (command ∷ commands) = commands

abbrev pub longest : List (List Command) → ℕ
longest [] = 0
longest (commands ∷ others) = max (length commands) (longest others)

-- so many rounds, of the commands from a number on
abbrev pub in_rounds : ℕ → ℕ → List (List Command) → List NumberedCommand
in_rounds zero number clients = []
in_rounds (suc rounds) number clients = heads number 0 clients ++ in_rounds rounds (number + 1) (map later_commands clients)

-- ---- what comes of a command

-- the entry of an action, if there is one, and what follows it
abbrev pub entry_then : NumberedCommand → List Reply → Workspace → Option Action → (Reply → Workspace → Entries × Workspace) → Entries × Workspace
entry_then numbered replies workspace None go = ([], workspace)
entry_then numbered replies workspace (Some a) go =
    let rest = go (step workspace a).0 (step workspace a).1 in
    ((record { client = numbered.client; command = numbered.number; part = length replies; action = a }, (step workspace a).0) ∷ rest.0, rest.1)

-- what is left of a command that has at most so many parts left, and the workspace after it
abbrev pub carried_out : Meanings → ℕ → NumberedCommand → List Reply → Workspace → Entries × Workspace
carried_out meanings zero numbered replies workspace = ([], workspace)
carried_out meanings (suc parts) numbered replies workspace =
    entry_then numbered replies workspace (next_action meanings numbered.command replies)
    (λ reply after. carried_out meanings parts numbered (replies ++ (reply ∷ [])) after)

-- commands one after another; no command has more than four parts
abbrev pub one_by_one : Meanings → Workspace → List NumberedCommand → Entries
one_by_one meanings workspace [] = []
one_by_one meanings workspace (numbered ∷ later) =
    let done = carried_out meanings 4 numbered [] workspace in done.0 ++ one_by_one meanings done.1 later

-- command 0 of each client in order, then command 1, and so on
unfoldable pub serial : Meanings → Workspace → List (List Command) → Entries
serial meanings workspace clients = one_by_one meanings workspace (in_rounds (longest clients) 0 clients)
