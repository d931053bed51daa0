-- The journal of clients in rounds fits.
use Rattle.std.specs.Prelude.{ℕ, List}
use Rattle.client_work.specs.declared.missions.ReportForm.{ReportForm}
use Rattle.session_judge.specs.declared.judged.JudgedSession.{JudgedSession}
use Rattle.session_run.specs.Performed.{IsPerformed, IsPerformedInTurn}

abbrev pub InTurnFits : Type 0
InTurnFits = (judged : JudgedSession) (bound : ℕ) (form : ReportForm) (text : List ℕ) (before after : ℕ) →
    IsPerformedInTurn judged bound form text before after → IsPerformed judged bound form text
