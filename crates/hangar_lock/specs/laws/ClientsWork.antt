-- How the work of a client goes on.
use Rattle.std.specs.Prelude.{◌≡◌, ℕ, ◌+◌, ◌<◌, List, [], ◌∷◌, ◌++◌, length, take, Some, None, slice_index_or}
use Rattle.hangar_core.specs.declared.actions.Action.{Action}
use Rattle.commands.specs.declared.commands.Command.{Command}
use Rattle.hangar_core.specs.declared.replies.Reply.{Reply}
use Rattle.hangar_core.specs.Fits.{Meanings, next_action}
use Rattle.hangar_lock.specs.declared.receipts.Receipt.{Receipt}
use Rattle.hangar_lock.specs.Passes.{HasActed, PassView}
use Rattle.hangar_lock.specs.ClientEntries.{HasBegun, HasDone, HasWorked}

-- a command of which nothing was done has begun
abbrev pub CommandsBegin : Type 0
CommandsBegin = (meanings : Meanings) (client number : ℕ) (command : Command) (pass : PassView) →
    HasBegun meanings client number command pass pass []

-- the entry of a command's next action takes it on
abbrev pub CommandsGoOn : Type 0
CommandsGoOn = (meanings : Meanings) (client number : ℕ) (command : Command) (before between after : PassView)
    (replies : List Reply) (action : Action) (receipt : Receipt) →
    HasBegun meanings client number command before between replies →
    next_action meanings command replies ≡ Some action →
    HasActed between (record { client = client; command = number; part = length replies; action = action }) receipt after →
    HasBegun meanings client number command before after (replies ++ receipt.reply ∷ [])

-- a command that goes on has had fewer than four replies
abbrev pub CommandsHaveFewParts : Type 0
CommandsHaveFewParts = (meanings : Meanings) (command : Command) (replies : List Reply) (action : Action) →
    next_action meanings command replies ≡ Some action → length replies < 4

-- and where no action is next it is done
abbrev pub CommandsEnd : Type 0
CommandsEnd = (meanings : Meanings) (client number : ℕ) (command : Command) (before after : PassView)
    (replies : List Reply) →
    HasBegun meanings client number command before after replies → next_action meanings command replies ≡ None →
    HasDone meanings client number command before after

-- a client of whose commands none was done
abbrev pub WorkBegins : Type 0
WorkBegins = (meanings : Meanings) (client : ℕ) (pass : PassView) → HasWorked meanings client [] pass pass

-- the next command takes the work on
abbrev pub WorkGoesOn : Type 0
WorkGoesOn = (meanings : Meanings) (client number : ℕ) (commands : List Command) (none : Command)
    (before between after : PassView) →
    number < length commands → HasWorked meanings client (take number commands) before between →
    HasDone meanings client number (slice_index_or commands number none) between after →
    HasWorked meanings client (take (number + 1) commands) before after

-- and behind the last one all of it is done
abbrev pub WorkEnds : Type 0
WorkEnds = (meanings : Meanings) (client number : ℕ) (commands : List Command) (before after : PassView) →
    number ≡ length commands → HasWorked meanings client (take number commands) before after →
    HasWorked meanings client commands before after
