-- What a reader of a session in a text answers.
use Rattle.std.specs.Prelude.{ℕ, List, Result}
use Rattle.aerie_base.specs.declared.places.Place.{Place}
use Rattle.aerie_text.specs.declared.token.Token.{Token}
use Rattle.model_reader.specs.ModelAnswers.{answer_by, UnlessOutOfMemory}
use Rattle.model_reader.specs.declared.read_error.ReadError.{ReadError}
use Rattle.readers.specs.Marks.{Mark, marks_of}
use Rattle.readers.specs.Parsed.{Parsed}
use Rattle.readers.specs.Places.{IsFirstRefusedBy, IsReadThroughBy}
use Rattle.readers.specs.Verdicts.{JudgesAll}
use Rattle.readers.specs.grammar.Readings.{IsRead}
use Rattle.session_grammar.specs.declared.raw.sessions.RawSession.{RawSession}
use Rattle.session_grammar.specs.grammar.Rules.{session_rule}
use Rattle.session_grammar.specs.grammar.Written.{written}
use Rattle.session_grammar.specs.reading.Sessions.{whole_session_at}

-- the answer: a session, or the place of the first mark that is left, with the limit that is passed there
abbrev pub answer_of_session : List ℕ → Parsed RawSession → Result RawSession ReadError
answer_of_session text reading = answer_by text (λ raw rest. raw) reading

-- the answer to a text that is cut into these tokens
abbrev pub session_answer : List ℕ → List Token → Result RawSession ReadError
session_answer text tokens = answer_of_session text (whole_session_at (marks_of text tokens))

-- a reader's answer is this one, unless memory ran out
abbrev pub IsSessionAnswer : List ℕ → List Token → Result RawSession ReadError → Type 0
IsSessionAnswer text tokens result = UnlessOutOfMemory (session_answer text tokens) result

-- the marks are a session, by the grammar as it is written
abbrev pub AreSession : List Mark → Type 0
AreSession marks = IsRead written session_rule marks

-- What reading a whole text says of the readings of the grammar as it is written. A session is read where the marks are one.
-- Reading stops at the first mark that is refused, or at the end where that is refused. A limit is passed at a mark that some
-- reading reads.
abbrev pub JudgesSession : List Mark → Parsed RawSession → Type 0
JudgesSession marks reading = JudgesAll written session_rule marks reading

-- at the place stands the first of the marks that no reading of the grammar as it is written reads, or it is that of the end
abbrev pub IsFirstRefusedOfSession : List ℕ → List Mark → Place → Type 0
IsFirstRefusedOfSession text marks place = IsFirstRefusedBy written session_rule text marks place

-- at the place stands a mark up to which, and with it, some reading of the grammar as it is written reads the marks
abbrev pub IsSessionReadThrough : List Mark → Place → Type 0
IsSessionReadThrough marks place = IsReadThroughBy written session_rule marks place
