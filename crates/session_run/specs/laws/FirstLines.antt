-- The first line of a session's text tells its journal.
use Rattle.std.specs.Prelude.{◌≡◌, ℕ, ◌==◌, Bool, List, [], ◌∷◌, codes, if◌then◌else◌, refl}
use Rattle.session_reader.specs.FewClients.{HasFewClients}
use Rattle.session_judge.specs.declared.judged.JudgedSession.{JudgedSession}
use Rattle.client_work.specs.declared.missions.ReportForm.{ReportForm}
use Rattle.session_run.specs.Missions.{without_stats}
use Rattle.session_run.specs.Performed.{IsPerformed}

-- a text as far as its first line feed, and with it
abbrev pub first_line : List ℕ → List ℕ
first_line [] = []
first_line (byte ∷ text) = byte ∷ (if byte == 10 then [] else first_line text)

-- two texts of a session, along journals that fit it, that have the same first line are along the same journal: entry by
-- entry and reply by reply
abbrev pub FirstLinesTellJournals : Type 0
FirstLinesTellJournals = (judged : JudgedSession) (bound : ℕ) (form other_form : ReportForm) (text other : List ℕ)
    (one : IsPerformed judged bound form text) (two : IsPerformed judged bound other_form other) →
    HasFewClients judged.session → first_line text ≡ first_line other → one.journal ≡ two.journal

-- and where no statements are counted, they are the same text
abbrev pub FirstLinesTellTexts : Type 0
FirstLinesTellTexts = (judged : JudgedSession) (bound : ℕ) (detail : Bool) (text other : List ℕ) →
    IsPerformed judged bound (without_stats detail) text → IsPerformed judged bound (without_stats detail) other →
    HasFewClients judged.session → first_line text ≡ first_line other → text ≡ other

-- ---- worked cases

pub two_lines : first_line (codes "[[0,0,0]]\n{}\n") ≡ codes "[[0,0,0]]\n"
two_lines = refl

pub no_line_feed : first_line (codes "[]") ≡ codes "[]"
no_line_feed = refl
