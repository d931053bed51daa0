use Rattle.scheduler.proofs.Accepting.{accepted_unless_rejected}
use Rattle.scheduler.proofs.laws.trials_are_accepted_unless_rejected.Goals as goal

pub returns : goal.returns
returns c = accepted_unless_rejected
