-- The session that bytes are, with all its rules, or the first refusal.
use Rattle.std.specs.Prelude.{◌≡◌, ℕ, List, [], Result, Ok, Err, length, nat_lt, if◌then◌else◌}
use Rattle.std.specs.Str.{is_utf8}
use Rattle.std.specs.Str.Lossy.{utf8_valid_len}
use Rattle.aerie_text.specs.Tokens.{tokens_of}
use Rattle.aerie_text.specs.declared.token.Token.{Token}
use Rattle.constraints.specs.declared.types.Constraint.{Constraint}
use Rattle.goals.specs.declared.types.Goal.{Goal}
use Rattle.refusal_text.specs.declared.refusals.Refusal.{Refusal}
use Rattle.seq_expand.specs.declared.rules.Sequencing.{Sequencing}
use Rattle.session_reader.specs.Answers.{Answer}
use Rattle.session_reader.specs.SessionTexts.{byte_limit, text_answer}
use Rattle.session_reader.specs.declared.session.Session.{Session}
use Rattle.session_reader.specs.declared.session_error.SessionError.TheVariants.{TooLarge, NotText}
use Rattle.session_judge.specs.FirstRefused.{RulesAnswer}
use Rattle.session_judge.specs.Rules.{session_constraints, session_goals, session_sequences}
use Rattle.session_judge.specs.Telling.{told_session}
use Rattle.session_judge.specs.declared.judge_error.JudgeError.{JudgeError}
use Rattle.session_judge.specs.declared.judge_error.JudgeError.TheVariants.{Refused, OutOfMemory}
use Rattle.session_judge.specs.declared.judged.JudgedSession.{JudgedSession}

-- what is judged, or the first refusal as it is told
abbrev pub Judgement : Type 0 → Type 0
Judgement A = Result A Refusal

-- the tokens of a text; where it cannot be cut no refusal names a token
abbrev pub tokens_or_none : Result (List Token) ℕ → List Token
tokens_or_none (Ok tokens) = tokens
tokens_or_none (Err at) = []

-- ---- the rules of a session

abbrev pub with_sequences : Session → List (List Constraint) → List (List Goal) → RulesAnswer (List Sequencing) → Judgement JudgedSession
with_sequences session constraints goals (Ok sequences) =
    Ok (record { session = session; constraints = constraints; goals = goals; sequences = sequences })
with_sequences session constraints goals (Err refusal) = Err refusal

abbrev pub with_goals : List ℕ → List Token → Session → List (List Constraint) → RulesAnswer (List (List Goal)) → Judgement JudgedSession
with_goals text tokens session constraints (Ok goals) = with_sequences session constraints goals (session_sequences text tokens session)
with_goals text tokens session constraints (Err refusal) = Err refusal

abbrev pub with_constraints : List ℕ → List Token → Session → RulesAnswer (List (List Constraint)) → Judgement JudgedSession
with_constraints text tokens session (Ok constraints) = with_goals text tokens session constraints (session_goals text tokens session constraints)
with_constraints text tokens session (Err refusal) = Err refusal

-- its constraints are judged before its goals, and these before its sequences
abbrev pub with_rules : List ℕ → List Token → Session → Judgement JudgedSession
with_rules text tokens session = with_constraints text tokens session (session_constraints text tokens session)

-- ---- the session

-- a session is judged by its rules
abbrev pub judged_answer : List ℕ → List Token → Answer Session → Judgement JudgedSession
judged_answer text tokens (Ok session) = with_rules text tokens session
judged_answer text tokens (Err error) = Err (told_session text tokens error)

abbrev pub judged_text : List ℕ → Judgement JudgedSession
judged_text text = judged_answer text (tokens_or_none (tokens_of text)) (text_answer text)

-- The session that bytes are, with all its rules; or their first refusal: more bytes than a session may have, bytes that are no
-- text, what is refused of the session, and then of the constraints of all models, after them of their goals, and
-- after these of their sequences, the refusal that stands first in the text.
unfoldable pub judged_session : List ℕ → Judgement JudgedSession
judged_session bytes =
    if nat_lt byte_limit (length bytes) then Err (told_session bytes [] TooLarge)
    else if is_utf8 bytes then judged_text bytes
    else Err (told_session bytes [] (NotText (utf8_valid_len bytes)))

-- ---- answers

-- this is what is judged, or why nothing is, unless memory ran out
abbrev pub IsJudged : {A : Type 0} → Judgement A → Result A JudgeError → Type 0
IsJudged judgement (Ok judged) = judgement ≡ Ok judged
IsJudged judgement (Err (Refused refusal)) = judgement ≡ Err refusal
IsJudged judgement (Err OutOfMemory) = Unit {0}
