-- What the answer to a text says of the readings of the grammar of sessions as it is written.
use Rattle.std.specs.Prelude.{◌≡◌, ℕ, List, ◌∷◌, ◌++◌, Ok, Err, length, take}
use Rattle.aerie_base.specs.declared.places.Place.{Place}
use Rattle.aerie_text.specs.Places.{place_of}
use Rattle.aerie_text.specs.Tokens.{tokens_of}
use Rattle.aerie_text.specs.declared.token.Token.{Token}
use Rattle.readers.specs.Marks.{Mark, marks_of}
use Rattle.readers.specs.grammar.Readings.{IsReadable, IsRefusedAt}
use Rattle.session_grammar.specs.SessionAnswers.{AreSession, IsFirstRefusedOfSession, IsSessionReadThrough}
use Rattle.session_grammar.specs.grammar.Rules.{session_rule}
use Rattle.session_grammar.specs.grammar.Written.{written}
use Rattle.session_reader.specs.Answers.{Answer}
use Rattle.session_reader.specs.declared.session.Session.{Session}
use Rattle.session_reader.specs.declared.session_error.SessionError.{SessionError}
use Rattle.session_reader.specs.declared.session_error.SessionError.TheVariants.{Syntax, TooMany, OutOfMemory}

-- the text is cut into tokens that are a session, by the grammar as it is written
pub record IsWritten (text : List ℕ) : Type 0 where
  pub tokens : List Token
  pub cut : tokens_of text ≡ Ok tokens
  pub are : AreSession (marks_of text tokens)

-- no token begins at the place, and what stands in front of it is cut into these tokens
pub record IsCutAt (text : List ℕ) (at : ℕ) (tokens : List Token) : Type 0 where
  pub bad : tokens_of text ≡ Err at
  pub front : tokens_of (take at text) ≡ Ok tokens

-- The place is the first behind which nothing goes on. Where the whole text is cut into tokens, it is that of the first of them up to
-- which, and with it, no reading reads, or the end. Where at some place no token begins, it is that of the first such token in
-- front of it, or else the place where none begins: some reading reads all tokens in front of it.
pub data IsFirstUnread (text : List ℕ) (place : Place) : Type 0 where
  of_text : (tokens : List Token) → tokens_of text ≡ Ok tokens → IsFirstRefusedOfSession text (marks_of text tokens) place → IsFirstUnread text place
  in_front : (at : ℕ) (tokens : List Token) (front behind : List Mark) (mark : Mark) → IsCutAt text at tokens → marks_of (take at text) tokens ≡ front ++ (mark ∷ behind) → place ≡ mark.at
      → IsRefusedAt written session_rule (marks_of (take at text) tokens) (length front) → IsFirstUnread text place
  no_token : (at : ℕ) (tokens : List Token) → IsCutAt text at tokens → place ≡ place_of text at → IsReadable written session_rule (marks_of (take at text) tokens) → IsFirstUnread text place

-- at the place stands a token, in front of the first place where none begins, up to which, and with it, some reading reads
pub data IsLimitPassedAt (text : List ℕ) (place : Place) : Type 0 where
  of_text : (tokens : List Token) → tokens_of text ≡ Ok tokens → IsSessionReadThrough (marks_of text tokens) place → IsLimitPassedAt text place
  in_front : (at : ℕ) (tokens : List Token) → IsCutAt text at tokens → IsSessionReadThrough (marks_of (take at text) tokens) place → IsLimitPassedAt text place

-- A syntax error stands where nothing goes on, and a limit is passed at a token that some reading reads. What else is refused is
-- refused of a text that is a session by the grammar.
abbrev pub BlamesReading : List ℕ → SessionError → Type 0
BlamesReading text (Syntax place) = IsFirstUnread text place
BlamesReading text (TooMany what place) = IsLimitPassedAt text place
BlamesReading text OutOfMemory = Unit {0}
BlamesReading text refusal = IsWritten text

-- the same of an answer: a session is answered of a text that is one by the grammar
abbrev pub TellsOfReadings : List ℕ → Answer Session → Type 0
TellsOfReadings text (Ok session) = IsWritten text
TellsOfReadings text (Err refusal) = BlamesReading text refusal
