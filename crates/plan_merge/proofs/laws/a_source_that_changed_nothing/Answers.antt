use Rattle.plan_merge.proofs.Nothing.{unchanged}
use Rattle.plan_merge.proofs.laws.a_source_that_changed_nothing.Goals as goal

pub returns : goal.returns
returns c = unchanged
