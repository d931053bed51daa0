use Rattle.client_work.proofs.Works.{has_worked}
use Rattle.client_work.proofs.laws.told_works_are_done.Goals as goal

pub returns : goal.returns
returns c = has_worked
