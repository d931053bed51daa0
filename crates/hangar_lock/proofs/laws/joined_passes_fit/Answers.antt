use Rattle.hangar_lock.proofs.Fitting.{fits}
use Rattle.hangar_lock.proofs.laws.joined_passes_fit.Goals as goal

pub returns : goal.returns
returns c = fits
