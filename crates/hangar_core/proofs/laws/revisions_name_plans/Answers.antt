use Rattle.hangar_core.proofs.Histories.{name_plans, never_fall}
use Rattle.hangar_core.proofs.laws.revisions_name_plans.Goals as goal

pub returns-clause-rise : goal.returns-clause-rise
returns-clause-rise c = never_fall

pub returns-clause-plans : goal.returns-clause-plans
returns-clause-plans c = name_plans
