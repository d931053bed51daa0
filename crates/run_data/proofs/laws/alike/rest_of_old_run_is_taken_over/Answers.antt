use Rattle.run_data.proofs.FollowedStates.{settled_is_followed}
use Rattle.run_data.proofs.RestOfRuns.{rest_is_taken_over, rest_is_taken_over_within, spent_is_cost}
use Rattle.run_data.proofs.RestOfSettled.{rest_is_taken_over_settled}
use Rattle.run_data.proofs.laws.alike.rest_of_old_run_is_taken_over.Goals as goal

pub returns : goal.returns
returns c = record { completed = rest_is_taken_over; within = rest_is_taken_over_within; settled = rest_is_taken_over_settled; followed = settled_is_followed; costs = spent_is_cost }
