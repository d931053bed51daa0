-- The sections stand where those of the session as it is written do.
use Rattle.std.proofs.Common.{ℕ, Ok, Err, IfOk, length}
use Rattle.std.specs.List.{AllByRecursion}
use Rattle.session_grammar.specs.SessionLimits.{IsLimitedSession}
use Rattle.session_grammar.specs.declared.raw.sessions.RawSession.{RawSession}
use Rattle.session_reader.specs.Answers.{Answer}
use Rattle.session_reader.specs.WellFormed.{HasRangesOf, HasSectionsWithin}
use Rattle.session_reader.specs.declared.session.Session.{Session}
use Rattle.session_reader.proofs.cut_sessions.read_cut_session.Goals as goal

sections_stand : (result : Answer Session) (raw : RawSession) (count : ℕ) → IfOk result (HasRangesOf raw) → IsLimitedSession count raw
    → IfOk result (λ session. AllByRecursion (HasSectionsWithin count) session.models)
sections_stand (Ok session) raw count ranges limits = ranges count limits
sections_stand (Err refusal) raw count ranges limits = tt

pub returns-clause-sections : goal.returns-clause-sections
returns-clause-sections c = sections_stand c.session.result c.in_ok-raw.raw (length c.args.tokens.now) c.session.ensures.ranges c.in_ok-raw.ensures.limits
