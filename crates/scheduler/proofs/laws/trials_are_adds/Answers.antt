use Rattle.scheduler.proofs.ByAdds.{as_given, trial_is_add}
use Rattle.scheduler.proofs.laws.trials_are_adds.Goals as goal

pub returns : goal.returns
returns c = record { given = as_given; client = trial_is_add }
