-- What a text means as a session, or the first thing in it that is refused.
use Rattle.std.specs.Prelude.{ℕ, List, Result, Ok, Err, length, take}
use Rattle.std.specs.Str.Lossy.{utf8_valid_len}
use Rattle.aerie_base.specs.declared.places.Place.{Place}
use Rattle.aerie_text.specs.Places.{place_of}
use Rattle.aerie_text.specs.Tokens.{tokens_of}
use Rattle.aerie_text.specs.declared.token.Token.{Token}
use Rattle.model_reader.specs.declared.read_error.ReadError.{ReadError}
use Rattle.model_reader.specs.declared.read_error.ReadError.TheVariants as read
use Rattle.session_grammar.specs.SessionAnswers.{session_answer as read_of}
use Rattle.session_grammar.specs.declared.raw.sessions.RawSession.{RawSession}
use Rattle.session_reader.specs.Answers.{Answer, then_made_of}
use Rattle.session_reader.specs.Sessions.{session_answer}
use Rattle.session_reader.specs.declared.session.Session.{Session}
use Rattle.session_reader.specs.declared.session_error.SessionError.{SessionError}
use Rattle.session_reader.specs.declared.session_error.SessionError.TheVariants.{NotText, Syntax, TooMany, OutOfMemory}

-- the most bytes of a session
abbrev pub byte_limit : ℕ
byte_limit = 16_777_216

-- bytes that are no text, by the offset of the first that does not belong to UTF-8
abbrev pub not_text : List ℕ → SessionError
not_text bytes = NotText (utf8_valid_len bytes)

-- ---- the form

abbrev pub error_of_read : ReadError → SessionError
error_of_read (read.Syntax place) = Syntax place
error_of_read (read.TooMany what place) = TooMany what place
error_of_read read.OutOfMemory = OutOfMemory

abbrev pub of_read : Result RawSession ReadError → Answer RawSession
of_read (Ok raw) = Ok raw
of_read (Err refusal) = Err (error_of_read refusal)

-- the session as it is written in a text of these tokens
abbrev pub form_answer : List ℕ → List Token → Answer RawSession
form_answer text tokens = of_read (read_of text tokens)

-- what is refused, or else this place
abbrev pub refused_or_at : Place → Answer RawSession → Answer RawSession
refused_or_at place (Ok raw) = Err (Syntax place)
refused_or_at place (Err refusal) = Err refusal

-- A text behind which no token begins: what is refused of its tokens, or else its end. All of it can be cut into tokens.
abbrev pub cut_answer : List ℕ → Result (List Token) ℕ → Answer RawSession
cut_answer text (Ok tokens) = refused_or_at (place_of text (length text)) (form_answer text tokens)
cut_answer text (Err at) = Err (Syntax (place_of text at))

abbrev pub raw_by_tokens : List ℕ → Result (List Token) ℕ → Answer RawSession
raw_by_tokens text (Ok tokens) = form_answer text tokens
raw_by_tokens text (Err at) = cut_answer (take at text) (tokens_of (take at text))

-- the session as it is written, or the first place that is refused: where no token begins, the text up to there is judged
abbrev pub raw_answer : List ℕ → Answer RawSession
raw_answer text = raw_by_tokens text (tokens_of text)

-- ---- the meaning

-- the session that a text means, or its first refusal
abbrev pub text_answer : List ℕ → Answer Session
text_answer text = then_made_of session_answer (raw_answer text)
