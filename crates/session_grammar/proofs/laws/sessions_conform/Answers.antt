use Rattle.std.proofs.Common.{length}
use Rattle.session_grammar.proofs.Conforming.Sessions.{session_law, session_judged}
use Rattle.session_grammar.proofs.laws.sessions_conform.Goals as goal

pub returns-clause-conforms : goal.returns-clause-conforms
returns-clause-conforms c marks = session_law c.models_conform_in_sessions.ensures (length marks) marks

pub returns-clause-judged : goal.returns-clause-judged
returns-clause-judged c = session_judged c.models_conform_in_sessions.ensures
