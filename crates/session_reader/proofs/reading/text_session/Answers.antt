-- The sections of the session that is made stand where those of the session as it is written do.
use Rattle.std.proofs.Common.{ℕ, List, Ok, Err, IfOk, length}
use Rattle.session_grammar.specs.declared.raw.sessions.RawSession.{RawSession}
use Rattle.session_reader.specs.Answers.{Answer}
use Rattle.session_reader.specs.WellFormed.{HasRangesOf, HasSectionsIn, IsLimitedIn}
use Rattle.session_reader.specs.declared.session.Session.{Session}
use Rattle.session_reader.proofs.reading.text_session.Goals as goal

sections_follow : (result : Answer Session) (raw : RawSession) (text : List ℕ) → IfOk result (HasRangesOf raw) →
    IsLimitedIn text raw → IfOk result (HasSectionsIn text)
sections_follow (Ok session) raw text ranges limits = λ tokens is. ranges (length tokens) (limits tokens is)
sections_follow (Err refusal) raw text ranges limits = tt

pub returns-clause-sections : goal.returns-clause-sections
returns-clause-sections c = sections_follow c.session.result c.in_ok-raw.raw c.args.text.now c.session.ensures.ranges c.in_ok-raw.ensures.limits
