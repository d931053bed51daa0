use Rattle.plan_merge.specs.MergedPlanLaws.{of_the_model}
use Rattle.plan_merge.proofs.laws.merges_are_of_the_model.Goals as goal

pub returns : goal.returns
returns c = of_the_model
