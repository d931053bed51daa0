-- What the program answers: its statuses, and the input that was read for it.
use Rattle.std.proofs.Common.{◌≡◌, ℕ, IsTrue, Bool, true, false, List, [], codes, length, Option, Some, None, Ok, Err, refl, sym, subst, ap, ◌∙◌, inl, inr, arith}
use Rattle.std.proofs.lemmas.Bool.{lt-ltb}
use Rattle.std.specs.Io.KnownBytes.{IsAtEnd}
use Rattle.command_line.specs.declared.invocation.Invocation.{Invocation}
use Rattle.command_line.specs.declared.invocation.Mode.{Mode}
use Rattle.command_line.specs.declared.invocation.Mode.TheVariants.{Run, Check, Make}
use Rattle.json_line.specs.Json.{line_of}
use Rattle.refusal_text.specs.declared.refusals.Refusal.{Refusal}
use Rattle.session_judge.specs.Accepted.{accepted_data}
use Rattle.session_judge.specs.Judging.{Judgement, judged_session}
use Rattle.session_judge.specs.Telling.{told_session}
use Rattle.session_judge.specs.declared.judged.JudgedSession.{JudgedSession}
use Rattle.session_make.specs.Sessions.{session}
use Rattle.session_reader.specs.declared.session_error.SessionError.TheVariants.{TooLarge}
use Rattle.aerie.specs.Input.{HasReadAll}
use Rattle.aerie.specs.Program.{StatementCounts, ProgramAnswer, counted_from, IsAnswerTo, IsInputIf, IsCheckAnswer, IsModeAnswer, IsMadeAnswer, IsProgramAnswer, IsRefusedSession, IsRunAnswer, IsSummarized, answer_with, is_answered, mode_reads, named_answer, number_of_status, reads_input, summary_text}
use Rattle.aerie.specs.declared.exit_status.ExitStatus.{ExitStatus}
use Rattle.aerie.specs.declared.exit_status.ExitStatus.TheVariants as status

-- ---- statuses

abbrev Tells : ProgramAnswer → Type 0
Tells answer = IsTrue (is_answered (number_of_status answer.status))

as_told : (answer wanted : ProgramAnswer) → answer ≡ wanted → Tells wanted → Tells answer
as_told answer wanted is tells = subst Tells (sym is) tells

-- a session that is refused has that status, explained or not
has_refused : (explain : Bool) (input : List ℕ) (refusal : Refusal) (answer : ProgramAnswer) → IsRefusedSession explain input refusal answer → answer.status ≡ status.Refused
has_refused false input refusal answer is = ap (λ (one : ProgramAnswer). one.status) is
has_refused true input refusal answer is = ap (λ (one : ProgramAnswer). one.status) is.told

refused_tells : (explain : Bool) (input : List ℕ) (refusal : Refusal) (answer : ProgramAnswer) → IsRefusedSession explain input refusal answer → Tells answer
refused_tells explain input refusal answer is =
    subst (λ (ending : ExitStatus). IsTrue (is_answered (number_of_status ending))) (sym (has_refused explain input refusal answer is)) refl

check_tells : (explain : Bool) (input : List ℕ) (judgement : Judgement JudgedSession) (answer : ProgramAnswer) → IsCheckAnswer explain input judgement answer → Tells answer
check_tells explain input (Ok judged) answer is = as_told answer (answer_with status.Done (line_of (accepted_data judged.session))) is refl
check_tells explain input (Err refusal) answer is = refused_tells explain input refusal answer is

run_tells : (invocation : Invocation) (input : List ℕ) (judgement : Judgement JudgedSession) (count : StatementCounts) (answer : ProgramAnswer)
    → IsRunAnswer invocation input judgement count answer → Tells answer
run_tells invocation input (Ok judged) count answer is = subst (λ (ending : ExitStatus). IsTrue (is_answered (number_of_status ending))) (sym is.done) refl
run_tells invocation input (Err refusal) count answer is = refused_tells invocation.explain input refusal answer is

summarized_tells : (number limit : ℕ) (judgement : Judgement JudgedSession) (answer : ProgramAnswer) → IsSummarized number limit judgement answer → Tells answer
summarized_tells number limit (Ok judged) answer is = as_told answer (answer_with status.Done (summary_text number limit judged)) is refl
summarized_tells number limit (Err refusal) answer is = absurd is

made_tells : (number : ℕ) (text : Bool) (limit : ℕ) (answer : ProgramAnswer) → IsMadeAnswer number text limit answer → Tells answer
made_tells number true limit answer is = as_told answer (answer_with status.Done (session number)) is refl
made_tells number false limit answer is = summarized_tells number limit (judged_session (session number)) answer is

mode_tells : (invocation : Invocation) (input : List ℕ) (mode : Mode) (count : StatementCounts) (answer : ProgramAnswer) → IsModeAnswer invocation input mode count answer → Tells answer
mode_tells invocation input Run count answer is = run_tells invocation input (judged_session input) count answer is
mode_tells invocation input Check count answer is = check_tells invocation.explain input (judged_session input) answer is
mode_tells invocation input (Make number text) count answer is = made_tells number text invocation.limit answer is

program_tells : (invocation : Option Invocation) (input : List ℕ) (count : StatementCounts) (answer : ProgramAnswer) → IsProgramAnswer invocation input count answer → Tells answer
program_tells None input count answer is = as_told answer (named_answer status.Words (codes "Words")) is refl
program_tells (Some invocation) input count answer is = mode_tells invocation input invocation.mode count answer is

-- the program's answers have one of the statuses with which all is written
pub answer_tells : (invocation : Option Invocation) (before after : Option (List ℕ)) (count : StatementCounts) (answer : ProgramAnswer) → IsAnswerTo invocation before after count answer
    → IsTrue (is_answered (number_of_status answer.status))
answer_tells invocation before after count answer is = program_tells invocation is.input count answer is.told

false_is_true : false ≡ true → ⊥
false_is_true e = cc

-- those are not the statuses of what failed
pub not_four : (n : ℕ) → IsTrue (is_answered n) → n ≡ 4 → ⊥
not_four n tells is = false_is_true (subst (λ (m : ℕ). is_answered m ≡ true) is tells)

pub not_five : (n : ℕ) → IsTrue (is_answered n) → n ≡ 5 → ⊥
not_five n tells is = false_is_true (subst (λ (m : ℕ). is_answered m ≡ true) is tells)

pub not_six : (n : ℕ) → IsTrue (is_answered n) → n ≡ 6 → ⊥
not_six n tells is = false_is_true (subst (λ (m : ℕ). is_answered m ≡ true) is tells)

-- ---- the whole input

-- a session of too many bytes is refused
too_long : (input : List ℕ) → length input ≡ 16_777_217 → judged_session input ≡ Err (told_session input [] TooLarge)
unfolding judged_session
too_long input is = rw (lt-ltb 16_777_216 (length input) (omega (arith, is))) refl

refused_is_not_done : (explain : Bool) (input : List ℕ) (refusal : Refusal) (answer : ProgramAnswer) → IsRefusedSession explain input refusal answer
    → number_of_status answer.status ≡ 0 → ⊥
refused_is_not_done explain input refusal answer is done =
    absurd (clash (subst (λ (ending : ExitStatus). number_of_status ending ≡ 0) (has_refused explain input refusal answer is) done))
  where
    clash : ◌≡◌ {A = ℕ} 3 0 → ⊥
    clash e = omega (arith, e)

not_done : (invocation : Invocation) (input : List ℕ) (mode : Mode) (count : StatementCounts) (answer : ProgramAnswer) → IsModeAnswer invocation input mode count answer
    → mode_reads mode ≡ true → length input ≡ 16_777_217 → number_of_status answer.status ≡ 0 → ⊥
not_done invocation input Run count answer is reads long done =
    refused_is_not_done invocation.explain input (told_session input [] TooLarge) answer
    (subst (λ (j : Judgement JudgedSession). IsRunAnswer invocation input j count answer) (too_long input long) is) done
not_done invocation input Check count answer is reads long done =
    refused_is_not_done invocation.explain input (told_session input [] TooLarge) answer
    (subst (λ (j : Judgement JudgedSession). IsCheckAnswer invocation.explain input j answer) (too_long input long) is) done
not_done invocation input (Make number text) count answer is reads long done = absurd cc

ended : (invocation : Option Invocation) (before after : Option (List ℕ)) (input : List ℕ) (count : StatementCounts) (answer : ProgramAnswer) → IsInputIf (reads_input invocation) before after input
    → IsProgramAnswer invocation input count answer → number_of_status answer.status ≡ 0 → reads_input invocation ≡ true → IsAtEnd after
ended None before after input count answer is told done reads = absurd cc
ended (Some invocation) before after input count answer is told done reads =
    let all : HasReadAll before after input = subst (λ (t : Bool). IsInputIf t before after input) reads is in
    elim all.ended [ inl end ↦ end | inr long ↦ absurd (not_done invocation input invocation.mode count answer told reads long done) ]

-- where all is done, a source that was read was read to its end
pub read_to_end : (invocation : Option Invocation) (before after : Option (List ℕ)) (count : StatementCounts) (answer : ProgramAnswer) → IsAnswerTo invocation before after count answer
    → number_of_status answer.status ≡ 0 → reads_input invocation ≡ true → IsAtEnd after
read_to_end invocation before after count answer is done reads = ended invocation before after is.input count answer is.read is.told done reads

-- ---- answers by modes

of_mode : (invocation : Invocation) (mode : Mode) (before after : Option (List ℕ)) (input : List ℕ) (count : StatementCounts) (answer : ProgramAnswer) → invocation.mode ≡ mode
    → IsInputIf (mode_reads mode) before after input → IsModeAnswer invocation input mode count answer → IsAnswerTo (Some invocation) before after count answer
of_mode invocation mode before after input count answer is read told = record {
  input = input;
  read = subst (λ (m : Mode). IsInputIf (mode_reads m) before after input) (sym is) read;
  told = subst (λ (m : Mode). IsModeAnswer invocation input m count answer) (sym is) told;
}

pub of_check : (invocation : Invocation) (before after : Option (List ℕ)) (input : List ℕ) (count : StatementCounts) (answer : ProgramAnswer) → invocation.mode ≡ Check
    → HasReadAll before after input → IsCheckAnswer invocation.explain input (judged_session input) answer → IsAnswerTo (Some invocation) before after count answer
of_check invocation before after input count answer is read told = of_mode invocation Check before after input count answer is read told

pub of_run : (invocation : Invocation) (before after : Option (List ℕ)) (input : List ℕ) (count : StatementCounts) (answer : ProgramAnswer) → invocation.mode ≡ Run
    → HasReadAll before after input → IsRunAnswer invocation input (judged_session input) count answer → IsAnswerTo (Some invocation) before after count answer
of_run invocation before after input count answer is read told = of_mode invocation Run before after input count answer is read told

pub of_make : (invocation : Invocation) (number : ℕ) (text : Bool) (before after : Option (List ℕ)) (count : StatementCounts) (answer : ProgramAnswer) → invocation.mode ≡ Make number text
    → IsMadeAnswer number text invocation.limit answer → IsAnswerTo (Some invocation) before after count answer
of_make invocation number text before after count answer is told = of_mode invocation (Make number text) before after [] count answer is tt told

-- words that are no invocation
pub of_no_words : (invocation : Option Invocation) (before after : Option (List ℕ)) (count : StatementCounts) (answer : ProgramAnswer) → invocation ≡ None
    → answer ≡ named_answer status.Words (codes "Words") → IsAnswerTo invocation before after count answer
of_no_words invocation before after count answer is told =
    subst (λ (one : Option Invocation). IsAnswerTo one before after count answer) (sym is) (record { input = []; read = tt; told = told })

-- a mode that reads is none that does not
pub reads_in : (invocation : Invocation) (mode : Mode) → invocation.mode ≡ mode → mode_reads mode ≡ true → reads_input (Some invocation) ≡ false → ⊥
reads_in invocation mode is reads not = absurd (clash (sym reads ∙ ap mode_reads (sym is) ∙ not))
  where
    clash : true ≡ false → ⊥
    clash e = cc

-- a count that begins at 0
pub from_nothing : (invocation : Option Invocation) (before after : Option (List ℕ)) (steps statements : ℕ) (answer : ProgramAnswer) → steps ≡ 0
    → IsAnswerTo invocation before after (counted_from steps statements) answer → (count : ℕ) × IsAnswerTo invocation before after (counted_from 0 count) answer
from_nothing invocation before after steps statements answer none is =
    (statements, subst (λ (n : ℕ). IsAnswerTo invocation before after (counted_from n statements) answer) none is)
