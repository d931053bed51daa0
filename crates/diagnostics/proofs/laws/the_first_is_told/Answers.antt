use Rattle.diagnostics.proofs.FirstTold.{told_first}
use Rattle.diagnostics.proofs.laws.the_first_is_told.Goals as goal

pub returns : goal.returns
returns g c = told_first g.C.Ranked.rank
