use Rattle.scheduler.proofs.AddedBy.{schedule_adds}
use Rattle.scheduler.proofs.laws.schedules_only_add.Goals as goal

pub returns : goal.returns
returns c = schedule_adds
