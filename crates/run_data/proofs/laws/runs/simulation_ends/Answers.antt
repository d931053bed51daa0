use Rattle.run_data.proofs.Ending.{transitions_finish, has_fresh_run, fresh_by_transitions}
use Rattle.run_data.proofs.laws.runs.simulation_ends.Goals as goal

pub returns : goal.returns
returns c = record { transitions = transitions_finish; run = has_fresh_run; same = fresh_by_transitions }
