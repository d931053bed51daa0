use Rattle.resimulate.proofs.SettledBefore.{instants_follow}
use Rattle.resimulate.proofs.laws.instants_follow_settled_states.Goals as goal

pub returns : goal.returns
returns c = instants_follow
