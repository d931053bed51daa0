-- A session that is performed.
use Rattle.std.specs.Prelude.{◌≡◌, ℕ, ◌+◌, List}
use Rattle.hangar_core.specs.Fits.{Fits}
use Rattle.hangar_core.specs.Journals.{Entries}
use Rattle.hangar_core.specs.Serial.{serial}
use Rattle.session_judge.specs.declared.judged.JudgedSession.{JudgedSession}
use Rattle.client_work.specs.declared.missions.ReportForm.{ReportForm}
use Rattle.session_run.specs.Missions.{all_commands, mission_of, opening_of, session_meanings}
use Rattle.session_run.specs.Steps.{AreAllRises, TellTheirSteps, risen_in_all}
use Rattle.session_run.specs.Texts.{AreAllPaidFor, session_text}

-- a journal that fits the commands of all clients
abbrev pub FitsSession : JudgedSession → ℕ → Entries → Type 0
FitsSession judged bound journal =
    Fits (session_meanings judged bound) (opening_of judged.session) (all_commands judged.session.clients) journal

-- the journal of clients in rounds: the first command of each, then the second of each, and so on, each whole
abbrev pub serial_journal : JudgedSession → ℕ → Entries
serial_journal judged bound =
    serial (session_meanings judged bound) (opening_of judged.session) (all_commands judged.session.clients)

-- A text is that of a session along a journal that fits it. Of the counts of statements, each is at most what the run paid for that is
-- reported, beside the run that its Fetch gave.
pub record IsPerformed (judged : JudgedSession) (bound : ℕ) (form : ReportForm) (text : List ℕ) : Type 0 where
  pub journal : Entries
  pub fits : FitsSession judged bound journal
  pub counts : ℕ → ℕ → ℕ
  pub paid : AreAllPaidFor (mission_of judged bound form) counts journal 0 judged.session.clients
  pub told : text ≡ session_text judged bound form counts journal

-- Along the one of clients in rounds. Where no schedule is made and no plan expanded, the steps rise by the sum of how far they rise in
-- the simulations, each of which is its count.
pub record IsPerformedInTurn (judged : JudgedSession) (bound : ℕ) (form : ReportForm) (text : List ℕ) (before after : ℕ) : Type 0 where
  pub counts : ℕ → ℕ → ℕ
  pub paid : AreAllPaidFor (mission_of judged bound form) counts (serial_journal judged bound) 0 judged.session.clients
  pub told : text ≡ session_text judged bound form counts (serial_journal judged bound)
  pub rises : ℕ → ℕ → ℕ
  pub counted : AreAllRises counts rises judged.session.clients
  pub risen : TellTheirSteps (all_commands judged.session.clients) → after ≡ before + risen_in_all rises judged.session.clients
