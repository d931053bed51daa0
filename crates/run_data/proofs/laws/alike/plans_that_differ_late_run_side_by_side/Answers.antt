use Rattle.run_data.proofs.LateDifferences.{run_side_by_side, same_instants_before, affords_no_less, affords_cost}
use Rattle.run_data.proofs.laws.alike.plans_that_differ_late_run_side_by_side.Goals as goal

pub returns : goal.returns
returns c = record { states = run_side_by_side; instants = same_instants_before; no_less = affords_no_less; cost = affords_cost }
