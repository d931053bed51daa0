use Rattle.hangar_core.proofs.Same.{front_replayed}
use Rattle.hangar_core.proofs.laws.fronts_are_replayed.Goals as goal

pub returns : goal.returns
returns c = front_replayed
