use Rattle.hangar_core.proofs.Same.{same_triples}
use Rattle.hangar_core.proofs.laws.triples_tell_all.Goals as goal

pub returns : goal.returns
returns c = same_triples
