use Rattle.plan_merge.proofs.SourceOnly.{given}
use Rattle.plan_merge.proofs.laws.a_target_that_changed_nothing.Goals as goal

pub returns : goal.returns
returns c = given
