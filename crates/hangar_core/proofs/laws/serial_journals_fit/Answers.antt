use Rattle.hangar_core.proofs.Serial.{serial_fits}
use Rattle.hangar_core.proofs.laws.serial_journals_fit.Goals as goal

pub returns : goal.returns
returns c = serial_fits
