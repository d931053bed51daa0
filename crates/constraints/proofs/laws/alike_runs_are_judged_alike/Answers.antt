use Rattle.constraints.proofs.AlikeRuns.{alike_runs}
use Rattle.constraints.proofs.laws.alike_runs_are_judged_alike.Goals as goal

pub returns : goal.returns
returns c = alike_runs
