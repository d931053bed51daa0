use Rattle.hangar_core.proofs.Isolation.{isolated, others_stay}
use Rattle.hangar_core.proofs.laws.branches_are_isolated.Goals as goal

pub returns-clause-alike : goal.returns-clause-alike
returns-clause-alike c = isolated

pub returns-clause-others : goal.returns-clause-others
returns-clause-others c = others_stay
