use Rattle.constraints.proofs.IntervalsKept.{long_kept}
use Rattle.constraints.proofs.evaluation.longer.Goals as goal

pub returns-clause-times : goal.returns-clause-times
returns-clause-times c = long_kept _ _ _ _ _ c.in_ok-made.ensures.times
