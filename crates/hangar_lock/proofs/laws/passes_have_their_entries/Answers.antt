use Rattle.hangar_lock.proofs.Fitting.{entries_are}
use Rattle.hangar_lock.proofs.laws.passes_have_their_entries.Goals as goal

pub returns : goal.returns
returns c = entries_are
