use Rattle.session_judge.proofs.GoodSeries.{good_series}
use Rattle.session_judge.proofs.judging.with_rules.Goals as goal

pub session_constraints-requires-clause-series : goal.session_constraints-requires-clause-series
session_constraints-requires-clause-series c = good_series c.read_series_may_be_given.ensures c.args.session.datasets c.requires.session.datasets
