-- What is told of the commands of a session whose clients go in rounds.
use Rattle.std.specs.Prelude.{◌≡◌, ℕ, ◌+◌, false, List, [], ◌∷◌, ◌++◌, map, None}
use Rattle.std.specs.List.{filter}
use Rattle.commands.specs.declared.commands.Command.{Command}
use Rattle.hangar_core.specs.Fits.{is_of_client, IsCommand}
use Rattle.hangar_core.specs.Journals.{Entries}
use Rattle.hangar_core.specs.Serial.{NumberedCommand, longest, in_rounds}
use Rattle.hangar_lock.specs.Passes.{PassView}
use Rattle.hangar_lock.specs.Places.{Places}
use Rattle.hangar_lock.specs.ClientEntries.{reply_of}
use Rattle.report_text.specs.declared.answers.Answer.{Answer}
use Rattle.session_reader.specs.declared.session.Client.{Client}
use Rattle.session_judge.specs.declared.judged.JudgedSession.{JudgedSession}
use Rattle.session_run.specs.declared.summary.Summary.{Summary}
use Rattle.session_run.specs.summary.Summaries.{summary_of}
use Rattle.client_work.specs.declared.missions.Mission.{Mission}
use Rattle.client_work.specs.declared.workplace.ClientCommand.{ClientCommand}
use Rattle.client_work.specs.Lines.{replies_to}
use Rattle.client_work.specs.Meanings.{meanings_of}
use Rattle.client_work.specs.Told.{command_told}
use Rattle.client_work.specs.Working.{HasGained, own_entries, replies_of}
use Rattle.session_run.specs.Missions.{all_commands, mission_of, without_stats}
use Rattle.session_run.specs.Performed.{serial_journal}
use Rattle.session_run.specs.Rounds.{in_rounds_until}

-- what is told of commands along a journal, each by the replies to the parts of its command
abbrev pub answers_along : Mission → Entries → List NumberedCommand → List Answer
answers_along mission journal [] = []
answers_along mission journal (numbered ∷ later) =
    command_told mission None numbered.command (replies_to numbered.number (filter (is_of_client numbered.client) journal))
    ∷ answers_along mission journal later

-- of all commands of a session along the journal of clients in rounds: of the first of each client, then of the second of
-- each, and so on
abbrev pub serial_answers : JudgedSession → ℕ → List Answer
serial_answers judged bound =
    answers_along (mission_of judged bound (without_stats false)) (serial_journal judged bound)
    (in_rounds (longest (all_commands judged.session.clients)) 0 (all_commands judged.session.clients))

-- ---- command by command

-- the entries of commands, one after another, and what is told of each
abbrev pub AreAnswered : Mission → List NumberedCommand → Entries → List Answer → Type 0
AreAnswered mission [] entries answers = (entries ≡ []) × (answers ≡ [])
AreAnswered mission (numbered ∷ later) entries answers =
    (own rest : Entries) × (others : List Answer) × (entries ≡ own ++ rest)
    × IsCommand (meanings_of mission.models mission.bound) numbered.client numbered.number numbered.command [] own
    × (answers ≡ command_told mission None numbered.command (map reply_of own) ∷ others)
    × AreAnswered mission later rest others

-- a client's command is done with a pass, and what is told of it is counted
pub record CountsCommand (mission : Mission) (numbered : ClientCommand) (command : Command) (before after : PassView) (summary_before summary_after : Summary) : Type 0 where
  pub gained : Places
  pub gains : HasGained before after gained
  pub parts : IsCommand (meanings_of mission.models mission.bound) numbered.client numbered.command command [] (own_entries gained)
  pub counted : (answers : List Answer) → summary_before ≡ summary_of answers →
      summary_after ≡ summary_of (answers ++ command_told mission None command (replies_of gained) ∷ [])

-- with one pass so many rounds are done, and the commands of the first clients in the next one, and what is told of all is counted
pub record HasCountedUntil (mission : Mission) (clients : List Client) (number client : ℕ) (before after : PassView) (summary : Summary) : Type 0 where
  pub gained : Places
  pub gains : HasGained before after gained
  pub answers : List Answer
  pub answered : AreAnswered mission (in_rounds_until number client (all_commands clients)) (own_entries gained) answers
  pub summed : summary ≡ summary_of answers

-- a round is done with a pass, and what is told is counted
pub record CountsRound (mission : Mission) (clients : List Client) (number : ℕ) (before after : PassView) (summary_before summary_after : Summary) : Type 0 where
  pub lock : after.lock ≡ before.lock
  pub goes_on : (first : PassView) → HasCountedUntil mission clients number 0 first before summary_before →
      HasCountedUntil mission clients (number + 1) 0 first after summary_after

-- all rounds are
abbrev pub HasCounted : Mission → List Client → PassView → PassView → Summary → Type 0
HasCounted mission clients before after summary = HasCountedUntil mission clients (longest (all_commands clients)) 0 before after summary
