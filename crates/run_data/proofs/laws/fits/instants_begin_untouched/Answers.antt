use Rattle.run_data.proofs.InstantBeginnings.{instants_begin_untouched}
use Rattle.run_data.proofs.laws.fits.instants_begin_untouched.Goals as goal

pub returns : goal.returns
returns c = instants_begin_untouched
