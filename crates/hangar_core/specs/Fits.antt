-- When a journal fits the commands of some clients.
use Rattle.std.specs.Prelude.{◌≡◌, ℕ, zero, suc, ◌+◌, ◌<◌, Bool, List, [], ◌∷◌, ◌++◌, length, nat_eq, Option, Some, None, slice_get}
use Rattle.std.specs.List.{filter}
use Rattle.aerie_base.specs.declared.plans.Plan.{Plan}
use Rattle.run_data.specs.KeptRuns.{KeptRun}
use Rattle.hangar_core.specs.declared.actions.Action.{Action}
use Rattle.hangar_core.specs.declared.actions.Action.TheVariants as action
use Rattle.commands.specs.declared.commands.Command.{Command}
use Rattle.commands.specs.declared.commands.Command.TheVariants.{New, Fork, Drop, Edit, Migrate, Show, Simulate, Schedule, Merge, Expand}
use Rattle.hangar_core.specs.declared.entries.Entry.{Entry}
use Rattle.hangar_core.specs.declared.replies.Reply.{Reply}
use Rattle.hangar_core.specs.declared.replies.Reply.TheVariants.{Fetched}
use Rattle.hangar_core.specs.declared.workspaces.Workspace.{Workspace}
use Rattle.hangar_core.specs.Commands.{first_action}
use Rattle.hangar_core.specs.Journals.{Entries, IsReplay}

-- ---- what a command does next

-- what commands make of the plans that they fetched; the crates above say it
pub record Meanings : Type 0 where
  -- the fresh run of a plan, for its model
  pub simulated : Plan → KeptRun
  -- the plan with the directives that its goals want
  pub scheduled : Plan → Plan
  -- the merged plan of a base, a source and a target, where there is one
  pub merged : Plan → Plan → Plan → Option Plan

-- what follows where a branch was fetched; nothing where it was not
abbrev pub on_fetched : Reply → (ℕ → Plan → Option Action) → Option Action
on_fetched (Fetched revision plan kept) next = next revision plan
on_fetched _ next = None

-- the run of the fetched plan is kept
abbrev pub attach_next : Meanings → List ℕ → Reply → List Reply → Option Action
attach_next meanings branch fetched [] = on_fetched fetched (λ revision plan. Some (action.Attach branch (meanings.simulated plan)))
attach_next meanings branch fetched (reply ∷ replies) = None

-- the scheduled plan is placed where the fetched one was
abbrev pub place_next : Meanings → List ℕ → Reply → List Reply → Option Action
place_next meanings branch fetched [] =
    on_fetched fetched (λ revision plan. Some (action.Place branch revision (meanings.scheduled plan)))
place_next meanings branch fetched (reply ∷ replies) = None

abbrev pub place_merged : List ℕ → ℕ → Option Plan → Option Action
place_merged target seen None = None
place_merged target seen (Some plan) = Some (action.Place target seen plan)

-- the source and the base are fetched, and the merged plan is placed where the target was
abbrev pub merge_next : Meanings → List ℕ → List ℕ → List ℕ → Reply → List Reply → Option Action
merge_next meanings target source base first [] = on_fetched first (λ seen plan. Some (action.Fetch source))
merge_next meanings target source base first (second ∷ []) = on_fetched second (λ revision plan. Some (action.Fetch base))
merge_next meanings target source base first (second ∷ third ∷ []) =
    on_fetched first (λ seen target_plan. on_fetched second (λ _ source_plan. on_fetched third (λ _ base_plan.
    place_merged target seen (meanings.merged base_plan source_plan target_plan))))
merge_next meanings target source base first (second ∷ third ∷ fourth ∷ replies) = None

-- what a command does behind its first action, by the reply to that one and those to what it did since
abbrev pub later_action : Meanings → Command → Reply → List Reply → Option Action
later_action meanings (New branch) first replies = None
later_action meanings (Fork branch source) first replies = None
later_action meanings (Drop branch) first replies = None
later_action meanings (Edit branch edit) first replies = None
later_action meanings (Migrate branch model) first replies = None
later_action meanings (Show branch) first replies = None
later_action meanings (Simulate branch) first replies = attach_next meanings branch first replies
later_action meanings (Schedule branch) first replies = place_next meanings branch first replies
later_action meanings (Merge target source base) first replies = merge_next meanings target source base first replies
later_action meanings (Expand branch) first replies = attach_next meanings branch first replies

-- what a command does next, by the replies to all that it did so far; `None`: it is over
abbrev pub next_action : Meanings → Command → List Reply → Option Action
next_action meanings command [] = Some (first_action command)
next_action meanings command (first ∷ replies) = later_action meanings command first replies

-- ---- the work of a client

-- the entries of a client's command with a number, behind these replies to it
abbrev pub IsCommand : Meanings → ℕ → ℕ → Command → List Reply → Entries → Type 0
IsCommand meanings client number command replies [] = next_action meanings command replies ≡ None
IsCommand meanings client number command replies (x ∷ entries) =
    (next_action meanings command replies ≡ Some x.0.action)
    × (x.0 ≡ record { client = client; command = number; part = length replies; action = x.0.action })
    × IsCommand meanings client number command (replies ++ (x.1 ∷ [])) entries

-- the entries of a client's commands, one command after another, counted from a number
abbrev pub IsWorkOf : Meanings → ℕ → ℕ → List Command → Entries → Type 0
IsWorkOf meanings client number [] entries = entries ≡ []
IsWorkOf meanings client number (command ∷ commands) entries =
    (own rest : Entries) × (entries ≡ own ++ rest)
    × IsCommand meanings client number command [] own
    × IsWorkOf meanings client (number + 1) commands rest

-- ---- journals of several clients

-- the commands of the client with a number
abbrev pub commands_of : ℕ → List (List Command) → List Command
commands_of client [] = []
commands_of zero (commands ∷ others) = commands
commands_of (suc client) (commands ∷ others) = commands_of client others

abbrev pub is_of_client : ℕ → Entry × Reply → Bool
is_of_client client x = nat_eq x.0.client client

-- a journal fits the commands of some clients, from a workspace on: its replies are the workspace's, each client's entries are
-- those of its commands, each once and in order, and there are no others
pub record Fits (meanings : Meanings) (first : Workspace) (clients : List (List Command)) (entries : Entries) : Type 0 where
  pub replayed : IsReplay first entries
  pub works : (client : ℕ) → client < length clients →
      IsWorkOf meanings client 0 (commands_of client clients) (filter (is_of_client client) entries)
  pub no_other : (place : ℕ) (x : Entry × Reply) → slice_get entries place ≡ Some x → x.0.client < length clients

-- whose part of which command each entry is
abbrev pub triple_of : Entry × Reply → ℕ × ℕ × ℕ
triple_of x = (x.0.client, x.0.command, x.0.part)
