use Rattle.session_grammar.proofs.Limited.Sessions.{limited}
use Rattle.session_grammar.proofs.laws.sessions_are_limited.Goals as goal

pub returns : goal.returns
returns c = limited c.models_conform_in_sessions.ensures c.models_are_within_limits.ensures
