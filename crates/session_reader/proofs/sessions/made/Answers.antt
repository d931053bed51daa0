use Rattle.std.proofs.Common.{sym, subst}
use Rattle.session_reader.specs.WellFormed.{HasRangesOf, IsSession}
use Rattle.session_reader.proofs.GoodSessions.{sections_good, session_good}
use Rattle.session_reader.proofs.sessions.made.Goals as goal

pub returns-clause-session : goal.returns-clause-session
returns-clause-session c =
    subst IsSession (sym c.in_ok-assembled.ensures)
    (session_good c.args.models.now c.args.raw.now c.requires.good c.args.start c.args.plan c.in_ok-datasets.datasets c.requires.plan c.in_ok-datasets.ensures.series)

pub returns-clause-ranges : goal.returns-clause-ranges
returns-clause-ranges c =
    subst (HasRangesOf c.args.raw.now) (sym c.in_ok-assembled.ensures)
    (λ count limits. sections_good c.args.models.now c.args.raw.now c.requires.good count limits c.args.start c.args.plan c.in_ok-datasets.datasets)
