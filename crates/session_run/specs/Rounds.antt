-- How clients go in rounds, command by command.
use Rattle.std.specs.Prelude.{◌≡◌, ℕ, zero, suc, ◌+◌, nat_lt, if◌then◌else◌, false, List, [], ◌∷◌, ◌++◌, length, map, take, drop, Some, slice_get}
use Rattle.std.specs.List.{filter}
use Rattle.commands.specs.declared.commands.Command.{Command}
use Rattle.hangar_core.specs.Fits.{is_of_client, IsCommand, Meanings}
use Rattle.hangar_core.specs.Journals.{Entries}
use Rattle.hangar_core.specs.Serial.{NumberedCommand, heads, longest, in_rounds}
use Rattle.hangar_lock.specs.Passes.{PassView}
use Rattle.hangar_lock.specs.Places.{Places}
use Rattle.session_reader.specs.declared.session.Client.{Client}
use Rattle.client_work.specs.declared.missions.Mission.{Mission}
use Rattle.client_work.specs.Counts.{PaysAsReplied, simulates}
use Rattle.client_work.specs.Meanings.{meanings_of}
use Rattle.client_work.specs.Lines.{told_line}
use Rattle.client_work.specs.Told.{command_told, count_told}
use Rattle.client_work.specs.Working.{own_entries, HasGained, IsCount, IsWorkTold, replies_of}
use Rattle.session_run.specs.Missions.{all_commands}
use Rattle.session_run.specs.Steps.{TellTheirSteps, together}
use Rattle.session_run.specs.Texts.{client_numbered}

-- the entries of commands, one after another
abbrev pub AreEntriesOf : Meanings → List NumberedCommand → Entries → Type 0
AreEntriesOf meanings [] entries = entries ≡ []
AreEntriesOf meanings (numbered ∷ later) entries =
    (own rest : Entries) × (entries ≡ own ++ rest)
    × IsCommand meanings numbered.client numbered.number numbered.command [] own
    × AreEntriesOf meanings later rest

-- what is left of the commands behind the first ones
abbrev pub commands_behind : ℕ → List (List Command) → List (List Command)
commands_behind number commands = map (drop number) commands

-- so many whole rounds, and the commands of the first clients in the next one
abbrev pub in_rounds_until : ℕ → ℕ → List (List Command) → List NumberedCommand
in_rounds_until number client commands = in_rounds number 0 commands ++ heads number 0 (take client (commands_behind number commands))

-- how many commands of a client are done then
abbrev pub done_until : ℕ → ℕ → ℕ → ℕ
done_until number client which = if nat_lt which client then number + 1 else number

-- a pass, and a count of steps
pub record Stand : Type 0 where
  pub pass : PassView
  pub steps : ℕ

abbrev pub stand_at : PassView → ℕ → Stand
stand_at pass steps = record { pass = pass; steps = steps }

-- the texts tell of the commands of each client that are done, by the client's entries, and what its simulations took together
pub record AreToldUntil (mission : Mission) (clients : List Client) (number client : ℕ) (entries : Entries) (texts : List (List ℕ)) (totals : List ℕ) : Type 0 where
  pub count : length texts ≡ length clients
  pub many : length totals ≡ length clients
  pub each : (which : ℕ) (x : Client) (text : List ℕ) (total : ℕ) → slice_get clients which ≡ Some x → slice_get texts which ≡ Some text → slice_get totals which ≡ Some total →
      IsWorkTold mission (client_numbered which x) 0 (take (done_until number client which) x.commands) (filter (is_of_client which) entries) text total

-- with one pass so many rounds are done, and the commands of the first clients in the next one
pub record HasDoneUntil (mission : Mission) (clients : List Client) (number client : ℕ) (before after : Stand) (texts : List (List ℕ)) : Type 0 where
  pub gained : Places
  pub gains : HasGained before.pass after.pass gained
  pub done : AreEntriesOf (meanings_of mission.models mission.bound) (in_rounds_until number client (all_commands clients)) (own_entries gained)
  pub totals : List ℕ
  pub told : AreToldUntil mission clients number client (own_entries gained) texts totals
  pub risen : TellTheirSteps (all_commands clients) → after.steps ≡ before.steps + together totals

-- ---- one command, one round, all rounds

-- so many texts without anything in them
abbrev pub texts_without : ℕ → List (List ℕ)
texts_without zero = []
texts_without (suc count) = [] ∷ texts_without count

-- a client's command with a number is done with a pass, and what is told of it goes to the end of a text
pub record TakesCommand (mission : Mission) (which : ℕ) (client : Client) (number : ℕ) (command : Command) (before after : Stand) (text_before text_after : List ℕ) : Type 0 where
  pub gained : Places
  pub gains : HasGained before.pass after.pass gained
  pub parts : IsCommand (meanings_of mission.models mission.bound) which number command [] (own_entries gained)
  pub statements : ℕ
  pub counted : IsCount command statements before.steps after.steps
  pub still : simulates command ≡ false → after.steps ≡ before.steps
  pub paid : PaysAsReplied mission command (replies_of gained) statements
  pub told : text_after ≡ text_before ++ told_line mission client.name number command (command_told mission (count_told mission statements) command (replies_of gained))

-- a round is done with a pass
pub record TakesRound (mission : Mission) (clients : List Client) (number : ℕ) (before after : Stand) (texts_before texts_after : List (List ℕ)) : Type 0 where
  pub lock : after.pass.lock ≡ before.pass.lock
  pub count : length texts_after ≡ length texts_before
  pub goes_on : (first : Stand) → HasDoneUntil mission clients number 0 first before texts_before →
      HasDoneUntil mission clients (number + 1) 0 first after texts_after

-- all rounds are
abbrev pub HasDoneRounds : Mission → List Client → Stand → Stand → List (List ℕ) → Type 0
HasDoneRounds mission clients before after texts = HasDoneUntil mission clients (longest (all_commands clients)) 0 before after texts
