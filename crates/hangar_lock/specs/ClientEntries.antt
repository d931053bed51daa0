-- The work of a client with a pass: a command's entries one after another, and command after command.
use Rattle.std.specs.Prelude.{◌≡◌, ℕ, ◌+◌, ◌≤◌, List, [], ◌∷◌, ◌++◌, length, map, Some}
use Rattle.commands.specs.declared.commands.Command.{Command}
use Rattle.hangar_core.specs.declared.replies.Reply.{Reply}
use Rattle.hangar_core.specs.Fits.{IsCommand, IsWorkOf, Meanings, next_action}
use Rattle.hangar_core.specs.Journals.{Entries}
use Rattle.hangar_lock.specs.Passes.{PassView}
use Rattle.hangar_lock.specs.Places.{Places, ToldEntry}

abbrev pub own_entry : ℕ × ToldEntry → ToldEntry
own_entry placed = placed.1

abbrev pub reply_of : ToldEntry → Reply
reply_of told = told.1

-- the places rise, from one on and all below another
abbrev pub RisesTo : ℕ → ℕ → Places → Type 0
RisesTo low top [] = low ≤ top
RisesTo low top (placed ∷ rest) = (low ≤ placed.0) × RisesTo (placed.0 + 1) top rest

-- the first entries of a client's command with a number, behind some replies; it may go on
abbrev pub IsBegun : Meanings → ℕ → ℕ → Command → List Reply → Entries → Type 0
IsBegun meanings client number command replies [] = Unit {0}
IsBegun meanings client number command replies (told ∷ entries) =
    (next_action meanings command replies ≡ Some told.0.action)
    × (told.0 ≡ record { client = client; command = number; part = length replies; action = told.0.action })
    × IsBegun meanings client number command (replies ++ (told.1 ∷ [])) entries

-- part of a command was done with a pass, and these are the replies
pub record HasBegun (meanings : Meanings) (client number : ℕ) (command : Command) (before after : PassView) (replies : List Reply) : Type 0 where
  pub gained : Places
  pub mine : after.mine ≡ before.mine ++ gained
  pub begun : IsBegun meanings client number command [] (map own_entry gained)
  pub replied : map reply_of (map own_entry gained) ≡ replies
  pub rises : RisesTo (length before.seen) (length after.seen) gained

-- a command was done with a pass
pub record HasDone (meanings : Meanings) (client number : ℕ) (command : Command) (before after : PassView) : Type 0 where
  pub gained : Places
  pub mine : after.mine ≡ before.mine ++ gained
  pub done : IsCommand meanings client number command [] (map own_entry gained)
  pub rises : RisesTo (length before.seen) (length after.seen) gained

-- commands were done with a pass, one after another, counted from 0
pub record HasWorked (meanings : Meanings) (client : ℕ) (commands : List Command) (before after : PassView) : Type 0 where
  pub gained : Places
  pub mine : after.mine ≡ before.mine ++ gained
  pub work : IsWorkOf meanings client 0 commands (map own_entry gained)
  pub rises : RisesTo (length before.seen) (length after.seen) gained
