-- What the answer to a text says of the readings of the grammar: what is read of its tokens is judged by a law of session_grammar, and
-- where no token begins, what stands in front is a text of its own.
use Rattle.std.proofs.Common.{◌≡◌, ℕ, List, [], ◌∷◌, ◌++◌, Result, Ok, Err, length, take, refl, ap, sym, subst, ◌∙◌}
use Rattle.std.proofs.Math.Seq.{take-length}
use Rattle.std.specs.Str.{chars}
use Rattle.aerie_base.specs.declared.places.Place.{Place}
use Rattle.aerie_text.specs.Places.{column_of, line_number, place_of}
use Rattle.aerie_text.specs.Tokens.{tokens_of}
use Rattle.aerie_text.specs.declared.token.Token.{Token}
use Rattle.model_reader.specs.declared.read_error.ReadError.{ReadError}
use Rattle.model_reader.specs.declared.read_error.ReadError.TheVariants as read
use Rattle.readers.specs.Marks.{Mark, marks_of}
use Rattle.readers.specs.Parsed.{Parsed, parsed, failed, over_limit}
use Rattle.readers.specs.Places.{place_left, at_mark, at_end}
use Rattle.session_grammar.specs.SessionAnswers.{answer_of_session, AreSession, IsFirstRefusedOfSession, IsSessionReadThrough, JudgesSession, session_answer as read_answer}
use Rattle.session_grammar.specs.declared.raw.sessions.RawSession.{RawSession}
use Rattle.session_grammar.specs.reading.Sessions.{whole_session_at}
use Rattle.session_reader.specs.Answers.{Answer, IsMade, then_made_of}
use Rattle.session_reader.specs.SessionTexts.{cut_answer, of_read, raw_answer, raw_by_tokens, refused_or_at, text_answer}
use Rattle.session_reader.specs.SessionVerdicts as verdict
use Rattle.session_reader.specs.SessionVerdicts.{BlamesReading, IsCutAt, IsFirstUnread, IsLimitPassedAt, IsWritten, TellsOfReadings}
use Rattle.session_reader.specs.Sessions.{session_answer}
use Rattle.session_reader.specs.declared.session.Session.{Session}
use Rattle.session_reader.specs.declared.session_error.SessionError.TheVariants as error
use Rattle.session_reader.proofs.FrontsAreCut.{front_is_cut}
use Rattle.session_reader.proofs.Meanings.{IsMeant, session_meant}

-- ---- what is read of tokens

abbrev ReadTells : List ℕ → List Mark → Result RawSession ReadError → Type 0
ReadTells text marks (Ok raw) = AreSession marks
ReadTells text marks (Err (read.Syntax place)) = IsFirstRefusedOfSession text marks place
ReadTells text marks (Err (read.TooMany what place)) = IsSessionReadThrough marks place
ReadTells text marks (Err read.OutOfMemory) = Unit {0}

read_tells : (text : List ℕ) (marks : List Mark) (reading : Parsed RawSession) → JudgesSession marks reading → ReadTells text marks (answer_of_session text reading)
read_tells text marks (parsed raw rest) judged = judged
read_tells text marks (failed []) judged = at_end refl judged
read_tells text marks (failed (mark ∷ rest)) judged = at_mark judged.front rest mark judged.is refl judged.refused
read_tells text marks (over_limit limit rest) judged =
    record {
      front = judged.front;
      mark = judged.next;
      behind = judged.behind;
      is = judged.is ∙ ap (λ (left : List Mark). judged.front ++ left) judged.here;
      stands = ap (place_left text) judged.here;
      readable = judged.readable;
    }

-- ---- what is read of a text

abbrev RawTells : List ℕ → Answer RawSession → Type 0
RawTells text (Ok raw) = IsWritten text
RawTells text (Err refusal) = BlamesReading text refusal

-- of a text that is cut into tokens
of_text : (text : List ℕ) (tokens : List Token) → tokens_of text ≡ Ok tokens → (answer : Result RawSession ReadError) → ReadTells text (marks_of text tokens) answer → RawTells text (of_read answer)
of_text text tokens cut (Ok raw) told = record { tokens = tokens; cut = cut; are = told }
of_text text tokens cut (Err (read.Syntax place)) told = verdict.IsFirstUnread.of_text tokens cut told
of_text text tokens cut (Err (read.TooMany what place)) told = verdict.IsLimitPassedAt.of_text tokens cut told
of_text text tokens cut (Err read.OutOfMemory) told = tt

-- the end of a front is the place behind it
end_of_front : (text : List ℕ) (at : ℕ) → place_of (take at text) (length (take at text)) ≡ place_of text at
end_of_front text at = ap (λ (before : List ℕ). let place : Place = record { line = line_number (chars before); column = column_of (chars before) } in place) (take-length (take at text))

-- of a front behind which no token begins
of_front : (text : List ℕ) (at : ℕ) (tokens : List Token) → IsCutAt text at tokens → (answer : Result RawSession ReadError) → ReadTells (take at text) (marks_of (take at text) tokens) answer
    → RawTells text (refused_or_at (place_of (take at text) (length (take at text))) (of_read answer))
of_front text at tokens cut (Ok raw) told = verdict.IsFirstUnread.no_token at tokens cut (end_of_front text at) (record { left = []; reading = told.reading })
of_front text at tokens cut (Err (read.Syntax place)) (at_mark front behind mark is stands refused) = verdict.IsFirstUnread.in_front at tokens front behind mark cut is stands refused
of_front text at tokens cut (Err (read.Syntax place)) (at_end stands refused) = verdict.IsFirstUnread.no_token at tokens cut (stands ∙ end_of_front text at) refused.before
of_front text at tokens cut (Err (read.TooMany what place)) told = verdict.IsLimitPassedAt.in_front at tokens cut told
of_front text at tokens cut (Err read.OutOfMemory) told = tt

module _ (judged : (marks : List Mark) → JudgesSession marks (whole_session_at marks)) where
  raw_tells : (text : List ℕ) (cut : Result (List Token) ℕ) → tokens_of text ≡ cut → RawTells text (raw_by_tokens text cut)
  raw_tells text (Ok tokens) e = of_text text tokens e (read_answer text tokens) (read_tells text (marks_of text tokens) (whole_session_at (marks_of text tokens)) (judged (marks_of text tokens)))
  raw_tells text (Err at) e =
      let front = front_is_cut text at e in
      let marks = marks_of (take at text) front.tokens in
      let told = of_front text at front.tokens (record { bad = e; front = front.is }) (read_answer (take at text) front.tokens) (read_tells (take at text) marks (whole_session_at marks) (judged marks)) in
      subst (λ (cut : Result (List Token) ℕ). RawTells text (cut_answer (take at text) cut)) (sym front.is) told

  -- ---- what is answered

  meaning_tells : (text : List ℕ) (answer : Answer Session) → IsMeant answer → IsWritten text → TellsOfReadings text answer
  meaning_tells text (Ok session) meant is = is
  meaning_tells text (Err (error.Syntax place)) meant is = absurd meant
  meaning_tells text (Err (error.TooMany what place)) meant is = absurd meant
  meaning_tells text (Err error.OutOfMemory) meant is = tt
  meaning_tells text (Err error.TooLarge) meant is = is
  meaning_tells text (Err (error.NotText at)) meant is = is
  meaning_tells text (Err (error.Check refusal)) meant is = is
  meaning_tells text (Err (error.Start place)) meant is = is
  meaning_tells text (Err (error.Directive number edit)) meant is = is
  meaning_tells text (Err (error.Client place)) meant is = is
  meaning_tells text (Err (error.Dataset number fault)) meant is = is

  then_tells : (text : List ℕ) (raw : Answer RawSession) → RawTells text raw → TellsOfReadings text (then_made_of session_answer raw)
  then_tells text (Ok raw) told = meaning_tells text (session_answer raw) (session_meant raw) told
  then_tells text (Err refusal) told = told

  text_tells : (text : List ℕ) → TellsOfReadings text (text_answer text)
  text_tells text = then_tells text (raw_answer text) (raw_tells text (tokens_of text) refl)

  answer_tells : (text : List ℕ) (meant result : Answer Session) → TellsOfReadings text meant → IsMade meant result → TellsOfReadings text result
  answer_tells text meant (Ok session) told made = subst (TellsOfReadings text) made told
  answer_tells text meant (Err error.OutOfMemory) told made = tt
  answer_tells text meant (Err error.TooLarge) told made = subst (TellsOfReadings text) made told
  answer_tells text meant (Err (error.NotText at)) told made = subst (TellsOfReadings text) made told
  answer_tells text meant (Err (error.Syntax place)) told made = subst (TellsOfReadings text) made told
  answer_tells text meant (Err (error.TooMany what place)) told made = subst (TellsOfReadings text) made told
  answer_tells text meant (Err (error.Check refusal)) told made = subst (TellsOfReadings text) made told
  answer_tells text meant (Err (error.Start place)) told made = subst (TellsOfReadings text) made told
  answer_tells text meant (Err (error.Directive number edit)) told made = subst (TellsOfReadings text) made told
  answer_tells text meant (Err (error.Client place)) told made = subst (TellsOfReadings text) made told
  answer_tells text meant (Err (error.Dataset number fault)) told made = subst (TellsOfReadings text) made told

  pub answers_tell : (text : List ℕ) (result : Answer Session) → IsMade (text_answer text) result → TellsOfReadings text result
  answers_tell text result made = answer_tells text (text_answer text) result (text_tells text) made
