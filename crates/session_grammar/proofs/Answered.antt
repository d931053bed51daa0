-- What the answer of the reader of a session says of the readings of the grammar.
use Rattle.std.proofs.Common.{◌≡◌, ℕ, List, Result, Ok, Err, IfOk, subst}
use Rattle.aerie_base.specs.declared.places.Place.{Place}
use Rattle.model_reader.proofs.Answered.{answered_holds as holds_of_answered, passed_there, refused_there}
use Rattle.model_reader.specs.ModelAnswers.{UnlessOutOfMemory}
use Rattle.model_reader.specs.declared.read_error.ReadError.{ReadError}
use Rattle.model_reader.specs.declared.read_error.ReadError.TheVariants.{Syntax, TooMany}
use Rattle.readers.specs.Marks.{Mark}
use Rattle.readers.specs.Parsed.{Parsed, parsed, failed, over_limit}
use Rattle.session_grammar.specs.SessionAnswers.{answer_of_session, AreSession, IsFirstRefusedOfSession, IsSessionReadThrough, JudgesSession}
use Rattle.session_grammar.specs.declared.raw.sessions.RawSession.{RawSession}
use Rattle.session_grammar.specs.grammar.Rules.{session_rule}
use Rattle.session_grammar.specs.grammar.Written.{written}

-- a session is answered: the marks are one
pub answered_session : (text : List ℕ) (marks : List Mark) (reading : Parsed RawSession) (result : Result RawSession ReadError) → JudgesSession marks reading
    → UnlessOutOfMemory (answer_of_session text reading) result → IfOk result (λ raw. AreSession marks)
answered_session text marks (parsed raw rest) (Ok answer) judged exact = judged
answered_session text marks (failed rest) (Ok answer) judged exact = cc
answered_session text marks (over_limit limit rest) (Ok answer) judged exact = cc
answered_session text marks reading (Err error) judged exact = tt

-- a place is answered alone: the first mark that is refused stands there, or the end is refused
pub answered_refused : (text : List ℕ) (marks : List Mark) (reading : Parsed RawSession) (place : Place) → JudgesSession marks reading
    → answer_of_session text reading ≡ Err (Syntax place) → IsFirstRefusedOfSession text marks place
answered_refused text marks reading place judged h = refused_there text _ written session_rule marks reading place (λ rest is. subst (JudgesSession marks) is judged) h

-- a limit is answered: the mark that stands there is read by some reading
pub answered_through : (text : List ℕ) (marks : List Mark) (reading : Parsed RawSession) (what : List ℕ) (place : Place) → JudgesSession marks reading
    → answer_of_session text reading ≡ Err (TooMany what place) → IsSessionReadThrough marks place
answered_through text marks reading what place judged h = passed_there text _ written session_rule marks reading what place (λ limit rest is. subst (JudgesSession marks) is judged) h

-- what holds of each session that is read holds of the one that is answered
pub answered_holds : (text : List ℕ) (reading : Parsed RawSession) (result : Result RawSession ReadError) (P : RawSession → Type 0) → ((rest : List Mark) (raw : RawSession) → reading ≡ parsed raw rest → P raw)
    → UnlessOutOfMemory (answer_of_session text reading) result → IfOk result P
answered_holds text reading result P holds exact = holds_of_answered text _ reading result P holds exact
