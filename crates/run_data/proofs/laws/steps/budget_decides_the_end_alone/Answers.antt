use Rattle.run_data.proofs.Budgets.{cost_is_within, same_within_cost}
use Rattle.run_data.proofs.laws.steps.budget_decides_the_end_alone.Goals as goal

pub returns : goal.returns
returns c = record { within = cost_is_within; same = same_within_cost }
