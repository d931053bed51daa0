-- What the program answers to the words and to the input.
use Rattle.std.specs.Prelude.{◌≡◌, ℕ, ◌==◌, Bool, true, false, ◌||◌, List, length, Option, Some, None, Ok, Err, codes}
use Rattle.std.specs.List.{AllByRecursion}
use Rattle.client_work.specs.declared.missions.ReportForm.{ReportForm}
use Rattle.json_line.specs.Json.{line_of}
use Rattle.command_line.specs.declared.invocation.Invocation.{Invocation}
use Rattle.command_line.specs.declared.invocation.Mode.{Mode}
use Rattle.command_line.specs.declared.invocation.Mode.TheVariants.{Run, Check, Make}
use Rattle.explain.specs.Explaining.{explanation_of}
use Rattle.explain.specs.declared.hint.Hint.{Hint}
use Rattle.hint_trials.specs.Trials.{TakesFurther}
use Rattle.refusal_text.specs.Refusals.{refusal_data, refused_data}
use Rattle.refusal_text.specs.declared.refusals.Refusal.{Refusal}
use Rattle.session_judge.specs.Accepted.{accepted_data}
use Rattle.session_judge.specs.Judging.{Judgement, judged_session}
use Rattle.session_judge.specs.Telling.{told_name}
use Rattle.session_judge.specs.declared.judged.JudgedSession.{JudgedSession}
use Rattle.session_make.specs.Sessions.{session}
use Rattle.session_run.specs.Answers.{serial_answers}
use Rattle.session_run.specs.Performed.{IsPerformed, IsPerformedInTurn}
use Rattle.session_run.specs.summary.Summaries.{summary_of}
use Rattle.session_run.specs.summary.SummaryLines.{summary_data}
use Rattle.aerie.specs.Input.{HasReadAll}
use Rattle.aerie.specs.declared.exit_status.ExitStatus.{ExitStatus}
use Rattle.aerie.specs.declared.exit_status.ExitStatus.TheVariants as status

-- ---- statuses

-- the number that a status is
abbrev pub number_of_status : ExitStatus → ℕ
number_of_status status.Done = 0
number_of_status status.Words = 2
number_of_status status.Refused = 3
number_of_status status.ReadFailed = 4
number_of_status status.WriteFailed = 5
number_of_status status.OutOfMemory = 6

-- the statuses with which the whole answer was written: done, words that are not in the grammar, a session that is refused
abbrev pub is_answered : ℕ → Bool
is_answered n = (n == 0) || (n == 2) || (n == 3)

-- those, a read that failed, a write that failed, want of memory
abbrev pub is_status : ℕ → Bool
is_status n = is_answered n || (n == 4) || (n == 5) || (n == 6)

-- ---- answers

-- what is written, and the status where all of it is written
pub record ProgramAnswer : Type 0 where
  pub status : ExitStatus
  pub text : List ℕ

abbrev pub answer_with : ExitStatus → List ℕ → ProgramAnswer
answer_with ending text = record { status = ending; text = text }

-- why something is refused
abbrev pub refused_answer : ExitStatus → Refusal → ProgramAnswer
refused_answer ending refusal = answer_with ending (line_of (refused_data (refusal_data refusal)))

-- by its name alone
abbrev pub named_answer : ExitStatus → List ℕ → ProgramAnswer
named_answer ending name = refused_answer ending (told_name name)

-- the text that explains why a session is refused, with hints each of which takes the session further
pub record IsExplained (input : List ℕ) (refusal : Refusal) (answer : ProgramAnswer) : Type 0 where
  pub hints : List Hint
  pub further : AllByRecursion (TakesFurther input) hints
  pub told : answer ≡ answer_with status.Refused (explanation_of input refusal hints)

-- a session is refused, and explained where that is asked for
abbrev pub IsRefusedSession : Bool → List ℕ → Refusal → ProgramAnswer → Type 0
IsRefusedSession false input refusal answer = answer ≡ refused_answer status.Refused refusal
IsRefusedSession true input refusal answer = IsExplained input refusal answer

-- ---- check

-- a session is judged with all its rules, and the clients and commands of one that is good are counted
abbrev pub IsCheckAnswer : Bool → List ℕ → Judgement JudgedSession → ProgramAnswer → Type 0
IsCheckAnswer explain input (Ok judged) answer = answer ≡ answer_with status.Done (line_of (accepted_data judged.session))
IsCheckAnswer explain input (Err refusal) answer = IsRefusedSession explain input refusal answer

-- ---- run

-- how the count of statements stood before a call of the program, and after it
pub record StatementCounts : Type 0 where
  pub before : ℕ
  pub after : ℕ

abbrev pub counted_from : ℕ → ℕ → StatementCounts
counted_from before after = record { before = before; after = after }

-- the text of a session that is performed: along the journal of clients in rounds where that is asked for, or else along a journal that fits
abbrev pub IsRunText : Bool → JudgedSession → ℕ → ReportForm → StatementCounts → List ℕ → Type 0
IsRunText true judged limit form count text = IsPerformedInTurn judged limit form text count.before count.after
IsRunText false judged limit form count text = IsPerformed judged limit form text

-- what reports tell besides
abbrev pub report_form : Invocation → ReportForm
report_form invocation = record { stats = invocation.stats; detail = invocation.detail }

-- a good session is performed
pub record HasRun (invocation : Invocation) (judged : JudgedSession) (count : StatementCounts) (answer : ProgramAnswer) : Type 0 where
  pub done : answer.status ≡ status.Done
  pub text : IsRunText invocation.serial judged invocation.limit (report_form invocation) count answer.text

-- a session is judged, and performed where it is good
abbrev pub IsRunAnswer : Invocation → List ℕ → Judgement JudgedSession → StatementCounts → ProgramAnswer → Type 0
IsRunAnswer invocation input (Ok judged) count answer = HasRun invocation judged count answer
IsRunAnswer invocation input (Err refusal) count answer = IsRefusedSession invocation.explain input refusal answer

-- ---- make

-- the line that tells what is counted of a generated session with so many directives, whose clients go in rounds
abbrev pub summary_text : ℕ → ℕ → JudgedSession → List ℕ
summary_text number limit judged =
    line_of (summary_data number (length judged.session.clients) (summary_of (serial_answers judged limit)))

-- a generated session is good, it is performed, and the line tells of it
abbrev pub IsSummarized : ℕ → ℕ → Judgement JudgedSession → ProgramAnswer → Type 0
IsSummarized number limit (Ok judged) answer = answer ≡ answer_with status.Done (summary_text number limit judged)
IsSummarized number limit (Err refusal) answer = ⊥

-- the text of a generated session where that is asked for, or else what comes of it
abbrev pub IsMadeAnswer : ℕ → Bool → ℕ → ProgramAnswer → Type 0
IsMadeAnswer number true limit answer = answer ≡ answer_with status.Done (session number)
IsMadeAnswer number false limit answer = IsSummarized number limit (judged_session (session number)) answer

-- ---- the program

abbrev pub IsModeAnswer : Invocation → List ℕ → Mode → StatementCounts → ProgramAnswer → Type 0
IsModeAnswer invocation input Run count answer = IsRunAnswer invocation input (judged_session input) count answer
IsModeAnswer invocation input Check count answer = IsCheckAnswer invocation.explain input (judged_session input) answer
IsModeAnswer invocation input (Make number text) count answer = IsMadeAnswer number text invocation.limit answer

-- what the program may answer to an invocation, if the words are one, and to the bytes of the input
abbrev pub IsProgramAnswer : Option Invocation → List ℕ → StatementCounts → ProgramAnswer → Type 0
IsProgramAnswer None input count answer = answer ≡ named_answer status.Words (codes "Words")
IsProgramAnswer (Some invocation) input count answer = IsModeAnswer invocation input invocation.mode count answer

-- ---- the input

abbrev pub mode_reads : Mode → Bool
mode_reads Run = true
mode_reads Check = true
mode_reads (Make number text) = false

-- a session that is performed or judged is read, and nothing else
abbrev pub reads_input : Option Invocation → Bool
reads_input None = false
reads_input (Some invocation) = mode_reads invocation.mode

-- the input was read to its end or as far as is read, where it is read
abbrev pub IsInputIf : Bool → Option (List ℕ) → Option (List ℕ) → List ℕ → Type 0
IsInputIf true before after input = HasReadAll before after input
IsInputIf false before after input = Unit {0}

-- the answer is one to the input that was read, given with this count of statements
pub record IsAnswerTo (invocation : Option Invocation) (before after : Option (List ℕ)) (count : StatementCounts) (answer : ProgramAnswer) : Type 0 where
  pub input : List ℕ
  pub read : IsInputIf (reads_input invocation) before after input
  pub told : IsProgramAnswer invocation input count answer
