use Rattle.constraints.proofs.ReadSeries.{read_series_is}
use Rattle.constraints.proofs.laws.read_series_may_be_given.Goals as goal

pub returns : goal.returns
returns c = read_series_is
